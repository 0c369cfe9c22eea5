-- A line's numbers, and what they write into a list.
--     room-test, room_refused, room-taken, room-full, room-empty      when they have room
--     put_none, put_next, put-all      what is written: nothing where there is no room; a turn of the loop that writes it; the list that holds it
-- Assumes nothing.
use Rattle.std.proofs.Common.{◌≡◌, ℕ, zero, suc, ◌+◌, ◌-◌, ◌*◌, ◌%◌, ◌<◌, ◌≤◌, Bool, true, false, Option, Some, None, is_some, ltb, leb, List, ◌++◌, map, length, get_or, take, drop, set, refl, sym, ap, ap₂, ◌∙◌, mod-eq_of_lt, suc-mul, arith, length-append, get_or-append-add, ltb-false, ltb-true, lt-ltb, le-leb, leb-true}
use native.Mathlib.Nat.{mod-eq-sub-mod}
use mathlib.Core.List.{append_assoc}
use lib.ListN.{length-map, get_or-append, get_or-map}
use Rattle.std.proofs.lemmas.List.Edits.{sets, sets-eq}
use Rattle.std.proofs.lemmas.Option.{none-some, same_Some}
use Rattle.lists.proofs.Fill.{filled, fill_step, fill_end}
use Rattle.lists.proofs.Tests.{both-0, both-1, both_true, pick_true, pick-false, pick-cases}
use Rattle.trial_lines.specs.declared.line.Line.{Line}
use Rattle.trial_lines.specs.Writing.{said_from, over, has_room, room_for, written, put_into}

-- ── a line's numbers, over and over ──
over-length : (times : ℕ) (xs : List ℕ) → length (over times xs) ≡ times * length xs
unfolding over
over-length zero xs = omega arith
over-length (suc times) xs = length-append xs (over times xs) ∙ omega (arith, over-length times xs, suc-mul times (length xs))

over-at : (times k : ℕ) (xs : List ℕ) → k < times * length xs → get_or (over times xs) k 0 ≡ get_or xs (k % length xs) 0
unfolding over
over-at zero k xs h = absurd (omega arith)
over-at (suc times) k xs h = by-test (ltb k (length xs)) refl (λ j. over-at times j xs)
  where
    by-test : (t : Bool) → ltb k (length xs) ≡ t → ((j : ℕ) → j < times * length xs → get_or (over times xs) j 0 ≡ get_or xs (j % length xs) 0) → get_or (xs ++ over times xs) k 0 ≡ get_or xs (k % length xs) 0
    by-test true e again =
        let l : k < length xs = ltb-true k (length xs) e in
        get_or-append xs (over times xs) 0 k l ∙ ap (λ (j : ℕ). get_or xs j 0) (sym (mod-eq_of_lt l))
    by-test false e again =
        let l : length xs ≤ k = ltb-false k (length xs) e in
        let s : length xs + (k - length xs) ≡ k = omega arith in
        ap (λ (j : ℕ). get_or (xs ++ over times xs) j 0) (sym s) ∙
        get_or-append-add xs (over times xs) (k - length xs) 0 ∙
        again (k - length xs) (omega (arith, suc-mul times (length xs))) ∙
        ap (λ (j : ℕ). get_or xs j 0) (sym (mod-eq-sub-mod l))

-- ── room for them ──
module _ (l : Line) (from times at room : ℕ) where
  abbrev pub RoomIs : Type 0
  RoomIs = (0 < length (said_from l from)) × (at + times * length (said_from l from) ≤ room)

  room-some : has_room l from times at room ≡ true → RoomIs
  unfolding has_room
  room-some e =
      let n = length (said_from l from) in
      (ltb-true 0 n (both-0 (ltb 0 n) (leb (at + times * n) room) e), leb-true (at + times * n) room (both-1 (ltb 0 n) (leb (at + times * n) room) e))

  room-some-of : RoomIs → has_room l from times at room ≡ true
  unfolding has_room
  room-some-of h =
      let n = length (said_from l from) in
      both_true (ltb 0 n) (leb (at + times * n) room) (lt-ltb 0 n h.0) (le-leb (at + times * n) room h.1)

  room-done : has_room l from times at room ≡ true → room_for l from times at room ≡ Some (at + times * length (said_from l from))
  unfolding room_for
  room-done e = pick_true (has_room l from times at room) _ _ e

  room-none : has_room l from times at room ≡ false → room_for l from times at room ≡ None
  unfolding room_for
  room-none e = pick-false (has_room l from times at room) _ _ e

  -- where the answer is known, the test is
  pub room-test : {end : Option ℕ} → end ≡ room_for l from times at room → is_some end ≡ has_room l from times at room
  unfolding room_for
  room-test e = ap (λ (o : Option ℕ). is_some o) e ∙ pick-cases (λ (o : Option ℕ). is_some o ≡ has_room l from times at room) (has_room l from times at room) _ _ (λ h. sym h) (λ h. sym h)

  pub room_refused : (RoomIs → ⊥) → None ≡ room_for l from times at room
  room_refused never = by-test (has_room l from times at room) refl
    where
      by-test : (t : Bool) → has_room l from times at room ≡ t → None ≡ room_for l from times at room
      by-test true e = absurd (never (room-some e))
      by-test false e = sym (room-none e)

  pub room-taken : RoomIs → Some (at + times * length (said_from l from)) ≡ room_for l from times at room
  room-taken h = sym (room-done (room-some-of h))

  pub room-empty : None ≡ room_for l from times at room → has_room l from times at room ≡ false
  room-empty e = by-test (has_room l from times at room) refl
    where
      by-test : (t : Bool) → has_room l from times at room ≡ t → t ≡ false
      by-test true q = absurd (none-some _ (e ∙ room-done q))
      by-test false q = refl

  -- they have room, and this is where they end
  pub record Full (end : ℕ) : Type 0 where
    pub has : has_room l from times at room ≡ true
    pub is : RoomIs
    pub ends : end ≡ at + times * length (said_from l from)

  pub room-full : {end : ℕ} → Some end ≡ room_for l from times at room → Full end
  room-full {end} e = by-test (has_room l from times at room) refl
    where
      by-test : (t : Bool) → has_room l from times at room ≡ t → Full end
      by-test true q = record { has = q; is = room-some q; ends = same_Some _ _ (e ∙ room-done q) }
      by-test false q = absurd (none-some _ (sym (e ∙ room-none q)))

-- ── what is written ──
module _ {A : Type 0} (f : ℕ → A) (l : Line) (from times at : ℕ) where
  pub put_none : (to : List A) → None ≡ room_for l from times at (length to) → to ≡ put_into f l from times at to
  unfolding written
  put_none to e = ap (λ (xs : List A). sets to at xs) (sym (pick-false (has_room l from times at (length to)) _ _ (room-empty l from times at (length to) e)))

  module _ (room end : ℕ) (full : Full l from times at room end) where
    all-written : written f l from times at room ≡ map f (over times (said_from l from))
    unfolding written
    all-written = pick_true (has_room l from times at room) _ _ full.has

    written-long : at + length (written f l from times at room) ≡ end
    written-long = omega (arith, ap length all-written, length-map (over times (said_from l from)) f, over-length times (said_from l from), full.ends)

    -- the number that is written at turn i
    written_at : (i : ℕ) → at + i < end → get_or (written f l from times at room) i (f 0) ≡ f (get_or (said_from l from) (i % length (said_from l from)) 0)
    written_at i h =
        let s = said_from l from in
        ap (λ (xs : List A). get_or xs i (f 0)) all-written ∙
        get_or-map f (over times s) i 0 ∙
        ap f (over-at times i s (omega (arith, full.ends)))

  -- the part of a list that they are written into, and the loop that overwrites it
  module _ (to : List A) (end : ℕ) (full : Full l from times at (length to) end) (part xs : List A) (i : ℕ) (inv : xs ≡ filled (written f l from times at (length to)) part i) where
    abbrev these : List A
    these = written f l from times at (length to)

    as-long : length part ≡ end - at → length these ≡ length part
    as-long long = omega (arith, written-long (length to) end full)

    pub put_next : length part ≡ end - at → i < length part → (v : A) → v ≡ f (get_or (said_from l from) (i % length (said_from l from)) 0) → set xs i v ≡ filled these part (i + 1)
    put_next long h v e =
        ap₂ (λ (l : List A) (x : A). set l i x) inv (e ∙ sym (written_at (length to) end full i (omega arith))) ∙ fill_step (f 0) these part (as-long long) i h

    pub put-all : length part ≡ end - at → length part ≤ i → take at to ++ (xs ++ drop end to) ≡ put_into f l from times at to
    put-all long h =
        let q = written-long (length to) end full in
        let e : xs ≡ these = inv ∙ fill_end (f 0) these part (as-long long) i h in
        ap₂ (λ (w : List A) (k : ℕ). take at to ++ (w ++ drop k to)) e (sym q) ∙ sym (append_assoc (take at to) these _) ∙ sym (sets-eq these to at (omega (arith, full.is.1, full.ends)))
