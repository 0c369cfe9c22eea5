-- The held log beside a message's: the words after the log has caught up.
--     keeps, grows, Longer               the held length and the words after the log has caught up
--     Caught, caught                     what the held log has before it is the message's, and what it lacked
-- Assumes nothing.
use mathlib.Core.Path.{◌≡◌, refl, sym, ap, subst, ◌∙◌}
use mathlib.Core.Bool.{Bool, true, false}
use mathlib.Core.Logic.{◌⊎◌, inl, inr}
use mathlib.Core.List.{List, [], ◌++◌, append-nil}
use Prim.Native.Nat.{ℕ, ◌-◌, ◌<◌, ◌≤◌}
use native.Mathlib.Omega.{arith}
use lib.Dec.{ltb}
use lib.ListN.{length, take, drop, length-drop, take-append-drop}
use lib.Seq.{sets, length-take-le, drop-append-le, take_at}
use borrow.Author.Tests.{lt-ltb, le-ltb, ltb-true, ltb-false}
use Rattle.lists.specs.Tests.{pick}
use Rattle.protocol.specs.Beginning.{◌⊑◌, ◌⊏◌}
use Rattle.lists.proofs.Tests.{pick-cases}
use Rattle.protocol_laws.proofs.Beginning.{⊑-cases, ⊏-length, ⊑-length, ⊑-rest, ⊑_refl, begins-of}
use Rattle.lists.proofs.Walk.{take-from}
use Rattle.numbers.specs.Numbers.{run_at}
use Rattle.spelling.specs.Reading.{record_at}
use Rattle.numbers.proofs.Runs.{run_at-length}
use Rattle.extending.proofs.Logs.{extended}
use Rattle.intake.specs.Intake.{caught_length, caught_words}
use Rattle.ballots.specs.Ballots.{words_with}

-- a beginning that is not shorter is the list itself
not-shorter : (a b : List ℕ) → a ⊑ b → length b ≤ length a → b ⊑ a
not-shorter a b p h = go (⊑-cases a b p)
  where
    go : (a ≡ b) ⊎ (a ⊏ b) → b ⊑ a
    go (inl e) = subst (λ (l : List ℕ). b ⊑ l) (sym e) (⊑_refl b)
    go (inr q) = absurd (omega (arith, ⊏-length a b q))

-- what is left of the log where its held part is not the shorter one, and where it is
pub keeps : (words rest : List ℕ) (held k : ℕ) → k ≤ held → (held ≡ caught_length held (run_at 6 record_at k rest)) × (words ≡ caught_words words held (run_at 6 record_at k rest))
unfolding caught_length caught_words pick
keeps words rest held k h = let e = le-ltb held (length (run_at 6 record_at k rest)) (omega (arith, run_at-length 6 record_at k rest)) in (simp e, simp e)

pub grows : (words rest : List ℕ) (held k : ℕ) → held < k
    → (k ≡ caught_length held (run_at 6 record_at k rest)) × (sets words held (drop held (run_at 6 record_at k rest)) ≡ caught_words words held (run_at 6 record_at k rest))
unfolding caught_length caught_words pick
grows words rest held k h =
    let l = run_at-length 6 record_at k rest in
    let e = lt-ltb held (length (run_at 6 record_at k rest)) (omega (arith, l)) in
    (simp e (sym l), simp e)

-- the new held length is the longer one
pub record Longer (held theirs end : ℕ) : Type 0 where
  pub past-own : held ≤ end
  pub past-theirs : theirs ≤ end
  pub within : (most : ℕ) → held ≤ most → theirs ≤ most → end ≤ most

pub longer-end : (rest : List ℕ) (held k : ℕ) → Longer held k (caught_length held (run_at 6 record_at k rest))
unfolding caught_length
longer-end rest held k =
    let l = run_at-length 6 record_at k rest in
    pick-cases (λ (e : ℕ). Longer held k e) (ltb held (length (run_at 6 record_at k rest))) (length (run_at 6 record_at k rest)) held
    (λ t. let q = ltb-true held (length (run_at 6 record_at k rest)) t in record { past-own = omega arith; past-theirs = omega arith; within = λ most a b. omega arith })
    (λ t. let q = ltb-false held (length (run_at 6 record_at k rest)) t in record { past-own = omega arith; past-theirs = omega arith; within = λ most a b. omega arith })

-- the words from one place of a list up to another
abbrev pub part : List ℕ → ℕ → ℕ → List ℕ
part words from to = take (to - from) (drop from words)

-- beside the held log and the message's log m: the words x that the held log lacks, and the words y that m lacks
pub record Caught (words : List ℕ) (held : ℕ) (m : List ℕ) (x y : List ℕ) : Type 0 where
  pub whole : take held words ++ x ≡ m ++ y
  pub one : (x ≡ []) ⊎ (y ≡ [])
  pub long : length (take held words ++ x) ≡ caught_length held m
  pub kept : words_with (take held words ++ x) words ≡ caught_words words held m

abbrev pub Comparable : List ℕ → List ℕ → Type 0
Comparable a b = (a ⊑ b) ⊎ (b ⊑ a)

none_of : (k : ℕ) (l : List ℕ) → take (k - k) l ≡ []
none_of k l = ap (λ (j : ℕ). take j l) none
  where
    none : k - k ≡ 0
    none = omega arith

module _ (words : List ℕ) (held : ℕ) (m : List ℕ) (room : held ≤ length words) (fits : length m ≤ length words) (c : Comparable (take held words) m) where
  abbrev new : List ℕ
  new = caught_words words held m

  abbrev end : ℕ
  end = caught_length held m

  abbrev own : List ℕ
  own = take held words

  own-length : length own ≡ held
  own-length = length-take-le held words room

  shorter : held < length m → own ⊑ m
  shorter h = go c
    where
      go : Comparable own m → own ⊑ m
      go (inl p) = p
      go (inr p) = absurd (omega (arith, ⊑-length m own p, own-length))

  longer : length m ≤ held → m ⊑ own
  longer h = go c
    where
      go : Comparable own m → m ⊑ own
      go (inl p) = not-shorter own m p (omega (arith, own-length))
      go (inr p) = p

  -- the message's log is the longer: it is the new one
  module _ (h : held < length m) where
    end-longer : end ≡ length m
    unfolding caught_length pick
    end-longer = rw (lt-ltb held (length m) h)

    new-longer : new ≡ words_with m words
    unfolding caught_words pick
    new-longer = rw (lt-ltb held (length m) h) (extended words m held (omega arith) fits (begins-of own m (shorter h)))

    lacked : part new held end ≡ drop held m
    lacked =
        let later : List ℕ = drop (length m) words in
        rw (end-longer, new-longer, drop-append-le held m later (omega arith)) (take_at (drop held m) later (length m - held) (length-drop held m))

    lacked-none : part new (length m) end ≡ []
    lacked-none = rw end-longer (none_of (length m) (drop (length m) new))

    rest : own ++ drop held m ≡ m
    rest = subst (λ (k : ℕ). own ++ drop k m ≡ m) own-length (⊑-rest own m (shorter h))

    caught-longer : Caught words held m (part new held end) (part new (length m) end)
    caught-longer =
        let grown : own ++ part new held end ≡ m = ap (λ (l : List ℕ). own ++ l) lacked ∙ rest in
        record {
          whole = grown ∙ sym (append-nil m) ∙ ap (λ (l : List ℕ). m ++ l) (sym lacked-none);
          one = inr lacked-none;
          long = ap length grown ∙ sym end-longer;
          kept = ap (λ (l : List ℕ). words_with l words) grown ∙ sym new-longer;
        }

  -- the message's log is not the longer: the words are as they were
  module _ (h : length m ≤ held) where
    end_same : end ≡ held
    unfolding caught_length pick
    end_same = rw (le-ltb held (length m) h)

    new-same : new ≡ words
    unfolding caught_words pick
    new-same = rw (le-ltb held (length m) h)

    none-lacked : part new held end ≡ []
    none-lacked = rw end_same (none_of held (drop held new))

    before : m ++ part new (length m) end ≡ own
    before = rw (end_same, new-same, take-from (length m) held words) (⊑-rest m own (longer h))

    caught-same : Caught words held m (part new held end) (part new (length m) end)
    caught-same =
        let same : own ++ part new held end ≡ own = ap (λ (l : List ℕ). own ++ l) none-lacked ∙ append-nil own in
        record {
          whole = same ∙ sym before;
          one = inl none-lacked;
          long = ap length same ∙ own-length ∙ sym end_same;
          kept = ap (λ (l : List ℕ). words_with l words) same ∙ ap (λ (k : ℕ). own ++ drop k words) own-length ∙ take-append-drop held words ∙ sym new-same;
        }

  pub caught : Caught words held m (part new held end) (part new (length m) end)
  caught = go (ltb held (length m)) refl
    where
      go : (b : Bool) → ltb held (length m) ≡ b → Caught words held m (part new held end) (part new (length m) end)
      go true e = caught-longer (ltb-true held (length m) e)
      go false e = caught-same (omega (arith, ltb-false held (length m) e))
