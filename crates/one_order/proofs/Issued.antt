-- Issued: every entry of a path was issued by a done call at its own office, whose own path just before that call was exactly what stands before
-- the entry, and whose log was a beginning of the log under which the path is held. Assumes nothing.
use mathlib.Core.Path.{◌≡◌}
use mathlib.Core.List.{List, [], ◌∷◌, ◌++◌}
use Prim.Native.Nat.{ℕ, ◌<◌}
use Rattle.protocol.specs.Entry.{value}
use Rattle.protocol.specs.Beginning.{◌⊑◌}
use Rattle.protocol.specs.Vote.{Rule}
use Rattle.protocol.specs.Office.{tail}
use Rattle.protocol.proofs.World.{Call, issue, refusal}
use Rattle.protocol_laws.proofs.Beginning.{⊑_trans, ⊏-⊑, ⊑-append, ⊏-nil, snoc-⊏}
use Rattle.one_order.proofs.History.{Past, past-refl, past-trans, after, office_at, log_at, own_at}
use Rattle.one_order.proofs.Steady.{Voted}

module _ (rule : Rule) (n : ℕ) where
  -- a done issue of e, at its office and with exactly p in view, under a log within l
  pub record Issued (cs : List Call) (l p : List ℕ) (e : ℕ) : Type 0 where
    pub k : ℕ
    pub line : ℕ
    pub code : ℕ
    pub moment : List Call
    pub call : Past (issue k line code ∷ moment) cs
    pub known : k < n
    pub done : refusal (after rule n moment) (issue k line code) ≡ 0
    pub entry : value k line code ≡ e
    pub view : own_at rule n k moment ≡ p
    pub heard : log_at rule n k moment ⊑ l
    -- right after the call it is the office's vote
    pub cast : Voted rule n (issue k line code ∷ moment) k p e

  -- every entry of q was issued with what stands before it in view, under a log within l
  abbrev pub EachIssued : List Call → List ℕ → List ℕ → Type 0
  EachIssued cs l q = (p : List ℕ) (e : ℕ) → (p ++ (e ∷ [])) ⊑ q → Issued cs l p e

  -- every own path that an office had by then
  abbrev pub OwnIssued : List Call → Type 0
  OwnIssued cs = (h : List Call) → Past h cs → (k : ℕ) → EachIssued cs (log_at rule n k h) (own_at rule n k h)

  -- of a later moment, and under another log that begins with the issuer's
  pub issued-at : {h cs : List Call} {l p : List ℕ} {e : ℕ} → Past h cs → (l' : List ℕ) (i : Issued h l p e) → log_at rule n i.k i.moment ⊑ l' → Issued cs l' p e
  issued-at a l' i within = record {
    k = i.k;
    line = i.line;
    code = i.code;
    moment = i.moment;
    call = past-trans i.call a;
    known = i.known;
    done = i.done;
    entry = i.entry;
    view = i.view;
    heard = within;
    cast = i.cast;
  }

  pub issued-later : {h cs : List Call} {l p : List ℕ} {e : ℕ} → Past h cs → Issued h l p e → Issued cs l p e
  issued-later {l} a i = issued-at a l i i.heard

  pub issued-under : {cs : List Call} {l p : List ℕ} {e : ℕ} (l' : List ℕ) (i : Issued cs l p e) → log_at rule n i.k i.moment ⊑ l' → Issued cs l' p e
  issued-under {cs} l' i h = issued-at (past-refl cs) l' i h

  pub each-issued-wider : (cs : List Call) (l l' q : List ℕ) → l ⊑ l' → EachIssued cs l q → EachIssued cs l' q
  each-issued-wider cs l l' q h f p e j = let i = f p e j in issued-under l' i (⊑_trans (log_at rule n i.k i.moment) l l' i.heard h)

  -- who issues has its log within its view
  pub each-issued-self : (cs : List Call) (l a b : List ℕ) → a ⊑ b → EachIssued cs l b → EachIssued cs a a
  each-issued-self cs l a b h f p e j =
      let i = f p e (⊑_trans (p ++ (e ∷ [])) a b j h) in
      let own : List ℕ = own_at rule n i.k i.moment in
      issued-under a i (⊑_trans (log_at rule n i.k i.moment) own a (⊑-append (log_at rule n i.k i.moment) (tail (office_at rule n i.k i.moment) i.k))
      (rw i.view (⊏-⊑ p a (snoc-⊏ p a e j))))

  pub empty-issued : EachIssued [] [] []
  empty-issued p e i = absurd (⊏-nil p (snoc-⊏ p [] e i))
