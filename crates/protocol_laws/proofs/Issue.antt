-- An issue that keeps the limits of an office's state, and what its number says.
--     issue-fine, issue-done-fine     a done issue keeps the limits
--     entry_done, issue-done          what an issue that is done found
--     meets-five                      what is refused with 5
--     below-stopped, never-4          (v) what stops an office below its part; a full tail has the own office's part
-- Assumes nothing.
use mathlib.Core.Path.{◌≡◌, refl, ◌∙◌}
use mathlib.Core.Bool.{Bool, true, false, not}
use mathlib.Core.List.{List, [], ◌∷◌, ◌++◌}
use mathlib.Core.Logic.{◌⊎◌, inl, inr}
use Prim.Native.Nat.{ℕ, ◌+◌, ◌<◌, ◌≤◌}
use native.Mathlib.Decide.{dec_lt}
use native.Mathlib.Omega.{arith}
use lib.Dec.{eqb, leb}
use lib.ListN.{length, length-append, length-set}
use lib.Seq.{drop-set-lt}
use borrow.Author.Tests.{eqb-false, eq-eqb, leb-false, lt-leb}
use Rattle.lists.specs.Tests.{all_b, pick}
use Rattle.protocol.specs.Entry.{value, office_of, proper, is_entry}
use Rattle.protocol.specs.Counts.{count_in}
use Rattle.protocol.specs.Fair.{part, fair}
use Rattle.protocol.specs.Office.{Office, tail}
use Rattle.protocol.specs.Limits.{tail_fine, length_limit}
use Rattle.protocol.specs.Issue.{with_issue, refuse_entry, refusal_at}
use Rattle.protocol.specs.Folding.{FoldedOffice, settled_length, refuse_folded_issue}
use Rattle.lists.proofs.Tests.{all_one, all_append, all_set}
use Rattle.protocol_laws.proofs.Limits.{FineTail, fine-tail-of, Fine, tail_at}
use Rattle.protocol_laws.proofs.Moves.{proper-true, value-parts, value-entry}
use Rattle.protocol_laws.proofs.Fair.{fair-append, fair-short, below-short}

more-fine : (n settled : ℕ) (t : List ℕ) (e : ℕ) → FineTail n settled t → is_entry n e ≡ true → count_in (office_of e) t < part n → settled + length t < 1024 → FineTail n settled (t ++ (e ∷ []))
more-fine n settled t e old p below l =
    let more : length (t ++ (e ∷ [])) ≡ length t + 1 = length-append t (e ∷ []) in
    let all : all_b (is_entry n) (t ++ (e ∷ [])) ≡ true = all_append (is_entry n) t (e ∷ []) old.entries (all_one (is_entry n) e p) in
    let parts : fair n (t ++ (e ∷ [])) ≡ true = fair-append n e t old.parts below in
    record { short = fair-short n (t ++ (e ∷ [])) parts all; room = omega arith; entries = all; parts = parts }

pub issue-fine : (n k e : ℕ) (o : Office) → Fine n o → k < n → is_entry n e ≡ true → count_in (office_of e) (tail o k) < part n → length o.log + length (tail o k) < 1024 → Fine n (with_issue k e o)
unfolding with_issue
issue-fine n k e o f h p below room =
    let new : List ℕ = tail o k ++ (e ∷ []) in
    let settled : ℕ = length o.log in
    record {
      eight = length-set o.tails k new ∙ f.eight;
      most = f.most;
      entries = f.entries;
      tails = all_set (tail_fine n settled) o.tails k new f.tails (fine-tail-of n settled new (more-fine n settled (tail o k) e (tail_at n o f k) p below room));
      rest = rw (drop-set-lt n o.tails k new h) f.rest;
    }

-- a line and a code within the limits
pub entry_done : (n line code : ℕ) → refuse_entry n line code ≡ 0 → proper n line code ≡ true
unfolding refuse_entry pick
entry_done n line code h = go (proper n line code) h
  where
    go : (a : Bool) → ◌≡◌ {A = ℕ} (pick (not a) 3 0) 0 → a ≡ true
    go true x = refl
    go false x = absurd (omega arith)

-- (iv), (xiv) 5 comes before 11: where what is held is full, and where "dropped entries included, length plus tail" is 2^63
pub meets-five : (n line code settled held len count : ℕ) → proper n line code ≡ true → (held + len ≡ 1024) ⊎ (settled + len ≡ length_limit)
    → refusal_at n line code settled held len count ≡ 5
unfolding refusal_at pick
meets-five n line code settled held len count p (inl e) = rw (p, eq-eqb (held + len) 1024 e) refl
meets-five n line code settled held len count p (inr e) = rw (p, eq-eqb (settled + len) length_limit e) (five (eqb (held + len) 1024))
  where
    five : (b : Bool) → ◌≡◌ {A = ℕ} (pick b 5 5) 5
    five true = refl
    five false = refl

-- what a done issue found
pub record IssueDone (n k line code : ℕ) (f : FoldedOffice) : Type 0 where
  pub limits : proper n line code ≡ true
  pub room : length f.held.log + length (tail f.held k) ≡ 1024 → ⊥
  pub within : settled_length f.dropped f.held + length (tail f.held k) ≡ length_limit → ⊥
  pub below : count_in k (tail f.held k) < part n

module _ (n k line code : ℕ) (f : FoldedOffice) where
  abbrev own : List ℕ
  own = tail f.held k

  abbrev held : ℕ
  held = length f.held.log

  abbrev settled : ℕ
  settled = settled_length f.dropped f.held

  pub issue-done : refuse_folded_issue n k line code f ≡ 0 → IssueDone n k line code f
  unfolding refuse_folded_issue refusal_at pick
  issue-done h =
      go (proper n line code) refl (eqb (held + length own) 1024) refl (eqb (settled + length own) length_limit) refl (leb (part n) (count_in k own)) refl h
    where
      go : (a : Bool) → proper n line code ≡ a → (b : Bool) → eqb (held + length own) 1024 ≡ b → (c : Bool) → eqb (settled + length own) length_limit ≡ c
          → (d : Bool) → leb (part n) (count_in k own) ≡ d → ◌≡◌ {A = ℕ} (pick (not a) 3 (pick b 5 (pick c 5 (pick d 11 0)))) 0 → IssueDone n k line code f
      go false p b q c r d s x = absurd (omega arith)
      go true p true q c r d s x = absurd (omega arith)
      go true p false q true r d s x = absurd (omega arith)
      go true p false q false r true s x = absurd (omega arith)
      go true p false q false r false s x = record {
        limits = p;
        room = eqb-false (held + length own) 1024 q;
        within = eqb-false (settled + length own) length_limit r;
        below = leb-false (part n) (count_in k own) s;
      }

  -- (v) "An office below its part is never stopped by the others' edits, save by 5": whatever its own tail and the other ballots hold, an entry that
  -- it may issue is done where there is room in the log
  pub below-stopped : proper n line code ≡ true → count_in k own < part n
      → refuse_folded_issue n k line code f ≡ pick (eqb (held + length own) 1024) 5 (pick (eqb (settled + length own) length_limit) 5 0)
  unfolding refuse_folded_issue refusal_at pick
  below-stopped p h = rw (p, lt-leb (part n) (count_in k own) h) refl

-- (v) "number 4 is to be shown never to occur": where the own tail is 32 long, the own office has its part of it, so that 11 holds where 4 did
pub never-4 : (n k : ℕ) (o : Office) → Fine n o → k < n → length (tail o k) ≡ 32 → part n ≤ count_in k (tail o k)
never-4 n k o f h e = go (dec_lt (count_in k (tail o k)) (part n))
  where
    go : Dec (count_in k (tail o k) < part n) → part n ≤ count_in k (tail o k)
    go (yes b) = let t = tail_at n o f k in absurd (omega (arith, below-short n k (tail o k) h t.parts t.entries b))
    go (no b) = omega arith

-- an issue is done, or refused with 3, 5 or 11: never with 1, which the state of a sound record does not meet, never with document 01's 4, and
-- never with take's 10 and 16
pub record IssueNever (x : ℕ) : Type 0 where
  pub no-1 : x ≡ 1 → ⊥
  pub no-4 : x ≡ 4 → ⊥
  pub no-10 : x ≡ 10 → ⊥
  pub no-16 : x ≡ 16 → ⊥

pub issue-never : (n k line code : ℕ) (f : FoldedOffice) → IssueNever (refuse_folded_issue n k line code f)
unfolding refuse_folded_issue refusal_at pick
issue-never n k line code f =
    go (not (proper n line code)) (eqb (held n k line code f + length (own n k line code f)) 1024) (eqb (settled n k line code f + length (own n k line code f)) length_limit)
    (leb (part n) (count_in k (own n k line code f)))
  where
    other : (x : ℕ) → (x ≡ 1 → ⊥) → (x ≡ 4 → ⊥) → (x ≡ 10 → ⊥) → (x ≡ 16 → ⊥) → IssueNever x
    other x p q r s = record { no-1 = p; no-4 = q; no-10 = r; no-16 = s }

    five : IssueNever 5
    five = other 5 (λ e. omega arith) (λ e. omega arith) (λ e. omega arith) (λ e. omega arith)

    go : (a b c d : Bool) → IssueNever (pick a 3 (pick b 5 (pick c 5 (pick d 11 0))))
    go true b c d = other 3 (λ e. omega arith) (λ e. omega arith) (λ e. omega arith) (λ e. omega arith)
    go false true c d = five
    go false false true d = five
    go false false false true = other 11 (λ e. omega arith) (λ e. omega arith) (λ e. omega arith) (λ e. omega arith)
    go false false false false = other 0 (λ e. omega arith) (λ e. omega arith) (λ e. omega arith) (λ e. omega arith)

pub issue-done-fine : (n k line code : ℕ) (f : FoldedOffice) → Fine n f.held → k < n → n ≤ 8 → refuse_folded_issue n k line code f ≡ 0 → Fine n (with_issue k (value k line code) f.held)
issue-done-fine n k line code f g h m r =
    let d = issue-done n k line code f r in
    let t = tail_at n f.held g k in
    let own : office_of (value k line code) ≡ k = (value-parts n k line code m (proper-true n line code d.limits)).0 in
    issue-fine n k (value k line code) f.held g h (value-entry n k line code h m d.limits) (rw own d.below) (below _ 1024 t.room d.room)
  where
    below : (x y : ℕ) → x ≤ y → (x ≡ y → ⊥) → x < y
    below x y a b = go (dec_lt x y)
      where
        go : Dec (x < y) → x < y
        go (yes c) = c
        go (no c) = absurd (b (omega arith))
