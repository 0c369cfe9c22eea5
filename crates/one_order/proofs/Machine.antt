-- Demand 3 of a machine: states W that are viewed as worlds of offices, and calls C that are viewed as calls of such a world. A machine that
-- follows document 01's steps has one order. Assumes nothing.
use mathlib.Core.Path.{◌≡◌, refl, sym, ap, subst, ◌∙◌}
use mathlib.Core.List.{List, [], ◌∷◌, ◌++◌}
use Prim.Native.Nat.{ℕ, ◌<◌, ◌≤◌}
use native.Mathlib.Omega.{arith}
use lib.ListN as L
use lib.ListN.{get_or}
use Rattle.protocol.specs.Entry.{value, office_of, line_of, code_of}
use Rattle.protocol.specs.Vote.{Rule}
use Rattle.protocol.specs.Office.{path}
use Rattle.protocol.specs.Longest.{longest}
use Rattle.one_order.proofs.Lawful.{Lawful}
use Rattle.protocol.proofs.World.{World, Call, issue, at, founded, refusal, step, run}
use Rattle.one_order.proofs.OneOrder.{world, settled_logs, IssuedIn, OrderBehind, OneOrder, one-order-of}

pub record Machine : Type 1 where
  pub W : Type 0
  pub C : Type 0
  pub start : W
  pub move : W → C → W
  pub number : W → C → ℕ
  pub view : W → World
  pub call : W → C → Call

abbrev pub runs : (m : Machine) → m.W → List m.C → m.W
runs m w [] = w
runs m w (c ∷ cs) = runs m (m.move w c) cs

-- a machine follows the paper's steps, as long as its state is sound
pub record Follows (m : Machine) (rule : Rule) (n : ℕ) : Type 1 where
  pub Sound : m.W → Type 0
  pub sound-start : Sound m.start
  pub sound-move : (w : m.W) (c : m.C) → Sound w → Sound (m.move w c)
  pub starts : m.view m.start ≡ founded n
  pub moves : (w : m.W) (c : m.C) → Sound w → m.view (m.move w c) ≡ step rule (m.view w) (m.call w c)
  -- a number 10 is the paper's 10; an issue that the paper does is done. Any other refusal may be viewed as `idle`
  pub tens : (w : m.W) (c : m.C) → Sound w → m.number w c ≡ 10 → refusal (m.view w) (m.call w c) ≡ 10
  pub issues : (w : m.W) (c : m.C) (k line code : ℕ) → Sound w → m.call w c ≡ issue k line code → refusal (m.view w) (issue k line code) ≡ 0 → m.number w c ≡ 0

-- the machine's state after the calls
abbrev pub reached : (m : Machine) → List m.C → m.W
reached m cs = runs m m.start cs

-- "the list has a done issue at that entry's office, with its line and code, and the own path just before that call is" p
pub record IssuedBy (m : Machine) (n : ℕ) (cs : List m.C) (p : List ℕ) (e : ℕ) : Type 0 where
  pub k : ℕ
  pub line : ℕ
  pub code : ℕ
  pub earlier : List m.C
  pub c : m.C
  pub later : List m.C
  pub listed : earlier ++ (c ∷ later) ≡ cs
  pub is-issue : m.call (reached m earlier) c ≡ issue k line code
  pub known : k < n
  pub done : m.number (reached m earlier) c ≡ 0
  pub entry : value k line code ≡ e
  pub its-office : office_of e ≡ k
  pub its-line : line_of e ≡ line
  pub its-code : code_of e ≡ code
  pub view : path (at (m.view (reached m earlier)) k) k ≡ p

-- Demand 3 of the machine's calls
abbrev pub OneOrderOf : (m : Machine) → ℕ → List m.C → Type 0
OneOrderOf m n cs = OrderBehind m.C (λ earlier. m.view (reached m earlier)) (λ earlier c. m.number (reached m earlier) c) (IssuedBy m n cs) n cs

-- ── the proof ──
-- document 01's calls behind the machine's
abbrev calls : (m : Machine) → m.W → List m.C → List Call
calls m w [] = []
calls m w (c ∷ cs) = m.call w c ∷ calls m (m.move w c) cs

calls-append : (m : Machine) (w : m.W) (a b : List m.C) → calls m w (a ++ b) ≡ calls m w a ++ calls m (runs m w a) b
calls-append m w [] b = refl
calls-append m w (c ∷ a) b = ap (λ (l : List Call). m.call w c ∷ l) (calls-append m (m.move w c) a b)

pub record Split (m : Machine) (w : m.W) (cs : List m.C) (x : List Call) (c : Call) : Type 0 where
  pub a : List m.C
  pub d : m.C
  pub b : List m.C
  pub whole : a ++ (d ∷ b) ≡ cs
  pub front : calls m w a ≡ x
  pub middle : m.call (runs m w a) d ≡ c

-- a place in document 01's calls is a place in the machine's
split : (m : Machine) (w : m.W) (cs : List m.C) (x : List Call) (c : Call) (y : List Call) → x ++ (c ∷ y) ≡ calls m w cs → Split m w cs x c
split m w [] [] c y e = let z : ◌≡◌ {A = ℕ} 0 1 = cc in absurd (omega arith)
split m w [] (f ∷ x) c y e = let z : ◌≡◌ {A = ℕ} 0 1 = cc in absurd (omega arith)
split m w (d ∷ cs) [] c y e = record { a = []; d = d; b = cs; whole = refl; front = refl; middle = cc }
split m w (d ∷ cs) (f ∷ x) c y e =
    let rest : x ++ (c ∷ y) ≡ calls m (m.move w d) cs = cc in
    let head : m.call w d ≡ f = cc in
    let s = split m (m.move w d) cs x c y rest in
    record { a = d ∷ s.a; d = s.d; b = s.b; whole = cc s.whole; front = cc (head, s.front); middle = s.middle }

module _ (m : Machine) (rule : Rule) (n : ℕ) (f : Follows m rule n) where
  sound-runs : (w : m.W) (cs : List m.C) → f.Sound w → f.Sound (runs m w cs)
  sound-runs w [] s = s
  sound-runs w (c ∷ cs) s = sound-runs (m.move w c) cs (f.sound-move w c s)

  view-runs : (w : m.W) (cs : List m.C) → f.Sound w → m.view (runs m w cs) ≡ run rule (m.view w) (calls m w cs)
  unfolding run
  view-runs w [] s = refl
  view-runs w (c ∷ cs) s = view-runs (m.move w c) cs (f.sound-move w c s) ∙ ap (λ (x : World). run rule x (calls m (m.move w c) cs)) (f.moves w c s)

  pub theirs : List m.C → List Call
  theirs cs = calls m m.start cs

  sound-at : (cs : List m.C) → f.Sound (reached m cs)
  sound-at cs = sound-runs m.start cs f.sound-start

  pub view-at : (cs : List m.C) → world rule n (theirs cs) ≡ m.view (reached m cs)
  unfolding theirs
  view-at cs = sym (view-runs m.start cs f.sound-start ∙ ap (λ (x : World). run rule x (calls m m.start cs)) f.starts)

  pub one-order-machine : Lawful rule → n ≤ 8 → 0 < n → (cs : List m.C) → OneOrderOf m n cs
  unfolding theirs
  one-order-machine law most pos cs = record {
    order = one.order;
    is-longest = one.is-longest ∙ ap (λ (w : World). longest (settled_logs w)) (view-at cs);
    present = (one.present.0, one.present.1, rw (← view-at cs) one.present.2);
    logs = λ a b e k. rw (← view-at a) (one.logs (theirs a) (calls m (reached m a) b) (sym (calls-append m m.start a b) ∙ ap theirs e) k);
    issued = λ p h. by (L.take p one.order) (get_or one.order p 0) (one.issued p h);
    never = λ a b c e h. one.never (theirs a) (calls m (m.move (reached m a) c) b) (m.call (reached m a) c)
        (sym (calls-append m m.start a (c ∷ b)) ∙ ap theirs e)
        (ap (λ (w : World). refusal w (m.call (reached m a) c)) (view-at a) ∙ f.tens (reached m a) c (sound-at a) h);
  }
    where
      one : OneOrder rule n (theirs cs)
      one = one-order-of rule n law most pos (theirs cs)

      by : (p : List ℕ) (e : ℕ) → IssuedIn rule n (theirs cs) p e → IssuedBy m n cs p e
      by p e i =
          let c : Call = issue i.k i.line i.code in
          let s = split m m.start cs i.earlier c i.later i.listed in
          let same : world rule n i.earlier ≡ m.view (reached m s.a) = ap (world rule n) (sym s.front) ∙ view-at s.a in
          record {
            k = i.k;
            line = i.line;
            code = i.code;
            earlier = s.a;
            c = s.d;
            later = s.b;
            listed = s.whole;
            is-issue = s.middle;
            known = i.known;
            done = f.issues (reached m s.a) s.d i.k i.line i.code (sound-at s.a) s.middle (ap (λ (w : World). refusal w c) (sym same) ∙ i.done);
            entry = i.entry;
            its-office = i.its-office;
            its-line = i.its-line;
            its-code = i.its-code;
            view = subst (λ (w : World). path (at w i.k) i.k ≡ p) same i.view;
          }
