-- A machine that follows the world with folding: states W that are shaped like such worlds, and calls C like their calls. It has one order, over
-- whole logs (`one-order-folder`).
--     both_at         the facts, after any list of calls
-- Assumes nothing.
use mathlib.Core.Path.{◌≡◌, refl, sym, ap, subst, ◌∙◌}
use mathlib.Core.List.{List, [], ◌∷◌}
use Prim.Native.Nat.{ℕ, ◌<◌, ◌≤◌}
use Rattle.protocol.specs.Vote.{Rule}
use Rattle.protocol.specs.SettledRule.{by_settled}
use Rattle.one_order.proofs.Lawful.{settled-lawful}
use Rattle.one_order.proofs.Machine.{Machine, runs, Follows, reached, OneOrderOf, one-order-machine}
use Rattle.protocol.proofs.FoldedWorld as F
use Rattle.one_order.proofs.FoldedSound as S
use Rattle.one_order.proofs.FoldedMoves.{moves}
use Rattle.one_order.proofs.FoldedKeeps.{keeps, starts, sound-start}
use Rattle.one_order.proofs.FoldedOrder.{is-issue, never}

pub record Folder (founding : List ℕ) (n : ℕ) : Type 1 where
  pub W : Type 0
  pub C : Type 0
  pub start : W
  pub move : W → C → W
  pub number : W → C → ℕ
  pub shape : W → F.World
  pub call : W → C → F.Call
  -- as long as its state is sound it takes the steps of the world with folding
  pub Sound : W → Type 0
  pub sound-start : Sound start
  pub sound-move : (w : W) (c : C) → Sound w → Sound (move w c)
  pub starts : shape start ≡ F.founded founding n
  pub moves : (w : W) (c : C) → Sound w → shape (move w c) ≡ F.step (shape w) (call w c)
  -- a number 10 is a 10 there, and an issue that is done there is done
  pub tens : (w : W) (c : C) → Sound w → number w c ≡ 10 → F.number (shape w) (call w c) ≡ 10
  pub issues : (w : W) (c : C) (k line code : ℕ) → Sound w → call w c ≡ F.issue k line code → F.number (shape w) (F.issue k line code) ≡ 0 → number w c ≡ 0

-- the machine, viewed as document 01's world of whole logs
abbrev pub wholly : {founding : List ℕ} {n : ℕ} → Folder founding n → Machine
wholly m = record {
  W = m.W;
  C = m.C;
  start = m.start;
  move = m.move;
  number = m.number;
  view = λ w. F.view (m.shape w);
  call = λ w c. F.call_of (m.shape w) (m.call w c);
}

module _ (founding : List ℕ) (n : ℕ) (pos : 0 < n) (m : Folder founding n) where
  abbrev rule : Rule
  rule = by_settled founding

  -- sound, and shaped like a world that the calls reach
  pub record Both (w : m.W) : Type 0 where
    pub here : m.Sound w
    pub there : S.Sound founding n (m.shape w)

  both-start : Both m.start
  both-start = record { here = m.sound-start; there = subst (S.Sound founding n) (sym m.starts) (sound-start founding n pos) }

  both-move : (w : m.W) (c : m.C) → Both w → Both (m.move w c)
  both-move w c b = record {
    here = m.sound-move w c b.here;
    there = subst (S.Sound founding n) (sym (m.moves w c b.here)) (keeps founding n pos (m.shape w) (m.call w c) b.there);
  }

  both_runs : (w : m.W) (cs : List m.C) → Both w → Both (runs (wholly m) w cs)
  both_runs w [] b = b
  both_runs w (c ∷ cs) b = both_runs (m.move w c) cs (both-move w c b)

  -- after any list of calls
  pub both_at : (cs : List m.C) → Both (reached (wholly m) cs)
  both_at cs = both_runs m.start cs both-start

  follows : Follows (wholly m) rule n
  follows = record {
    Sound = Both;
    sound-start = both-start;
    sound-move = both-move;
    starts = ap F.view m.starts ∙ starts founding n pos;
    moves = λ w c b. ap F.view (m.moves w c b.here) ∙ moves founding n pos (m.shape w) b.there (m.call w c);
    tens = λ w c b h. absurd (never founding n pos (m.shape w) b.there (m.call w c) (m.tens w c b.here h));
    issues = λ w c k line code b h _.
        let i = is-issue (m.shape w) (m.call w c) k line code h in
        m.issues w c k line code b.here i.0 (subst (λ (x : F.Call). F.number (m.shape w) x ≡ 0) i.0 i.1);
  }

  pub one-order-folder : n ≤ 8 → (cs : List m.C) → OneOrderOf (wholly m) n cs
  one-order-folder most cs = one-order-machine (wholly m) rule n follows (settled-lawful founding) most pos cs

-- the world with folding is such a machine
pub itself : (founding : List ℕ) (n : ℕ) → Folder founding n
itself founding n = record {
  W = F.World;
  C = F.Call;
  start = F.founded founding n;
  move = F.step;
  number = F.number;
  shape = λ w. w;
  call = λ w c. c;
  Sound = λ w. Unit {0};
  sound-start = tt;
  sound-move = λ w c s. tt;
  starts = refl;
  moves = λ w c s. refl;
  tens = λ w c s h. h;
  issues = λ w c k line code s e h. ap (F.number w) e ∙ h;
}
