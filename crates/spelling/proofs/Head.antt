-- What `head_ok` says, as facts, and the test from its facts. Assumes nothing.
use Prim.Native.Nat.{ℕ, ◌≤◌}
use mathlib.Core.Bool.{true}
use mathlib.Core.List.{List}
use mathlib.Core.Path.{◌≡◌}
use lib.Dec.{leb, eqb}
use lib.ListN.{length, get_or}
use borrow.Author.Tests.{leb-true, eqb-true, le-leb, eq-eqb}
use Rattle.lists.proofs.Tests.{both-1, both-0, both_true}
use Rattle.spelling.specs.Spelling.{head_size}
use Rattle.spelling.specs.Reading.{head_ok, count_at, dropped_at, settled_at}

pub record Head (s : List ℕ) : Type 0 where
  pub four : 4 ≤ length s
  pub mark-0 : get_or s 0 0 ≡ 0x53
  pub mark-1 : get_or s 1 0 ≡ 0x48
  pub head-long : head_size (count_at s) ≤ length s
  pub dropped-within : dropped_at s ≤ settled_at s

pub head-facts : (s : List ℕ) → head_ok s ≡ true → Head s
unfolding head_ok
head-facts s h0 =
    let h1 = both-1 (leb 4 (length s)) _ h0 in
    let h2 = both-1 (eqb (get_or s 0 0) 0x53) _ h1 in
    let h3 = both-1 (eqb (get_or s 1 0) 0x48) _ h2 in
    record {
      four = leb-true _ _ (both-0 _ _ h0);
      mark-0 = eqb-true _ _ (both-0 _ _ h1);
      mark-1 = eqb-true _ _ (both-0 _ _ h2);
      head-long = leb-true _ _ (both-0 _ _ h3);
      dropped-within = leb-true _ _ (both-1 (leb (head_size (count_at s)) (length s)) _ h3);
    }

pub head-test : (s : List ℕ) → Head s → head_ok s ≡ true
unfolding head_ok
head-test s h =
    both_true _ _ (le-leb 4 (length s) h.four)
    (both_true _ _ (eq-eqb (get_or s 0 0) 0x53 h.mark-0)
    (both_true _ _ (eq-eqb (get_or s 1 0) 0x48 h.mark-1)
    (both_true _ _ (le-leb (head_size (count_at s)) (length s) h.head-long) (le-leb (dropped_at s) (settled_at s) h.dropped-within))))
