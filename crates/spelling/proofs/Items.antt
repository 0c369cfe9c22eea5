-- The three items: a weight of two bytes, a value of four, a log record of six. Assumes nothing.
use Prim.Native.Nat.{ℕ, zero, suc, ◌+◌, ◌*◌, ◌/◌, ◌≤◌}
use mathlib.Core.Bool.{Bool, true}
use mathlib.Core.List.{List, [], ◌∷◌, ◌++◌}
use mathlib.Core.Path.{◌≡◌, refl, sym, ap, ◌∙◌}
use native.Mathlib.Omega.{arith}
use lib.Dec.{ltb, leb, eqb}
use lib.ListN.{length, get_or, drop, length-drop}
use lib.Seq.{drop-drop}
use borrow.Author.Tests.{ltb-true, leb-true, eqb-true, lt-ltb, le-leb}
use Rattle.protocol.specs.Entry.{is_entry, proper}
use Rattle.protocol.specs.Limits.{is_weight}
use Rattle.lists.specs.Tests.{both}
use Rattle.lists.proofs.Tests.{both-1, both-0, both_true}
use Rattle.numbers.specs.Numbers.{bytes32, be16, bytes16, be32, run_ok}
use Rattle.spelling.specs.Reading.{record_at, record_here}
use Rattle.spelling.specs.Spelling.{log_record}
use Rattle.numbers.proofs.Numbers.{be16-bytes16, be32-bytes32, be16-back, be16-below, be32-back, be32-below}
use Rattle.numbers.proofs.Runs.{Item, bytes_drop}

-- a number of 32 bits
unfoldable pub is_word : ℕ → Bool
is_word v = ltb v 4294967296

pub entry-word : (n v : ℕ) → n ≤ 8 → is_entry n v ≡ true → is_word v ≡ true
unfolding is_entry proper is_word
entry-word n v h e = lt-ltb v 4294967296 (omega (arith, ltb-true (v / 16777216) n (both-0 _ _ e)))

-- room for an item of w bytes, which is all that the layout asks of one with no mark
unfoldable pub room_for : ℕ → List ℕ → Bool
room_for w s = leb w (length s)

pub room-for : (w k : ℕ) (s : List ℕ) → w * k ≤ length s → run_ok w (room_for w) k s ≡ true
unfolding run_ok room_for
room-for w zero s h = refl
room-for w (suc k) s h =
    let e : w * suc k ≡ w + w * k = omega arith in
    both_true _ _ (le-leb w (length s) (omega arith)) (room-for w k (drop w s) (rw length-drop (omega arith)))

-- a mark of two bytes
mark-back : (s : List ℕ) (x y : ℕ) → 2 ≤ length s → eqb (get_or s 0 0) x ≡ true → eqb (get_or s 1 0) y ≡ true → x ∷ y ∷ drop 2 s ≡ s
mark-back [] x y h p q = absurd (omega arith)
mark-back (a ∷ []) x y h p q = absurd (omega arith)
mark-back (a ∷ b ∷ r) x y h p q = rw (eqb-true a x p, eqb-true b y q)

pub weight_item : Item 2 bytes16 be16 (room_for 2) is_weight
unfolding bytes16 room_for is_weight
weight_item =
    record {
      wide = λ v. refl;
      said = λ v r h. be16-bytes16 v r (ltb-true v 65536 h);
      here = λ v r h. le-leb 2 (length (bytes16 v ++ r)) (omega arith);
      back = λ s b h. be16-back s b (leb-true 2 (length s) h);
      fine = λ s b h. lt-ltb (be16 s) 65536 (be16-below s b);
    }

pub value_item : Item 4 bytes32 be32 (room_for 4) is_word
unfolding bytes32 room_for is_word
value_item =
    record {
      wide = λ v. refl;
      said = λ v r h. be32-bytes32 v r (ltb-true v 4294967296 h);
      here = λ v r h. le-leb 4 (length (bytes32 v ++ r)) (omega arith);
      back = λ s b h. be32-back s b (leb-true 4 (length s) h);
      fine = λ s b h. lt-ltb (be32 s) 4294967296 (be32-below s b);
    }

pub record_item : Item 6 log_record record_at record_here is_word
unfolding bytes32 log_record record_at record_here is_word both
record_item =
    record {
      wide = λ v. refl;
      said = λ v r h. be32-bytes32 v r (ltb-true v 4294967296 h);
      here = λ v r h. both_true _ _ (le-leb 6 (length (log_record v ++ r)) (omega arith)) refl;
      back = λ s b h.
          let l : 6 ≤ length s = leb-true 6 (length s) (both-0 _ _ h) in
          let m : 4 ≤ length (drop 2 s) = rw length-drop (omega arith) in
          let e = both-1 (leb 6 (length s)) _ h in
          ap (λ (t : List ℕ). 76 ∷ 71 ∷ (bytes32 (be32 (drop 2 s)) ++ t)) (sym (drop-drop 4 2 s))
          ∙ ap (λ (t : List ℕ). 76 ∷ 71 ∷ t) (be32-back (drop 2 s) (bytes_drop 2 s b) m)
          ∙ mark-back s 76 71 (omega arith) (both-0 _ _ e) (both-1 (eqb (get_or s 0 0) 76) _ e);
      fine = λ s b h. lt-ltb (be32 (drop 2 s)) 4294967296 (be32-below (drop 2 s) (bytes_drop 2 s b));
    }

pub record-length : (s : List ℕ) → record_here s ≡ true → 6 ≤ length s
unfolding record_here
record-length s e = leb-true 6 (length s) (both-0 _ _ e)
