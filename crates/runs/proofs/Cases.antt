-- (x) Cases computed: a log with lines 5, 6, a move of weight from office 0 to office 1, line 5 and line 7; line 6 has the code 0.
-- (xiv) The same where codes of lines 5, 7 and 9 are kept of entries before it. Assumes nothing.
use mathlib.Core.Path.{◌≡◌, refl}
use mathlib.Core.List.{List, [], ◌∷◌}
use Rattle.std.specs.Prelude.{None, Some}
use Prim.Native.Nat.{ℕ}
use lib.ListN.{set, take}
use Rattle.lists.specs.Tests.{both, pick, all_b}
use Rattle.protocol.specs.Entry.{value}
use Rattle.protocol.specs.Codes.{no_codes}
use Rattle.protocol.specs.Frames.{edit_after}
use Rattle.runs.specs.Runs.{edits, edits_of, least_up_to, shortest_run}
use Rattle.runs.specs.Walk.{walk, walk_back}

abbrev log : List ℕ
log = value 0 5 120 ∷ value 1 6 0 ∷ value 0 65 3 ∷ value 2 5 140 ∷ value 0 7 9 ∷ []

-- as of place 4: lines 5, 6 and 5 again stand in the last three words, the move among them; line 7 comes later and line 8 never, so all four are read
abbrev first : List ℕ
first = take 4 log

pub as-of-4 :
    ((edits_of (5 ∷ 6 ∷ 5 ∷ []) no_codes first ≡ 141 ∷ 1 ∷ 141 ∷ []) × (shortest_run (5 ∷ 6 ∷ 5 ∷ []) first ≡ 3)) ×
    ((edits_of (5 ∷ 7 ∷ 8 ∷ []) no_codes first ≡ 141 ∷ 0 ∷ 0 ∷ []) × (shortest_run (5 ∷ 7 ∷ 8 ∷ []) first ≡ 4)) ×
    ((edits_of (5 ∷ []) no_codes first ≡ 141 ∷ []) × (shortest_run (5 ∷ []) first ≡ 1)) ×
    ((edits_of [] no_codes first ≡ []) × (shortest_run [] first ≡ 0))
unfolding edit_after edits least_up_to pick both all_b
as-of-4 = ((refl, refl), (refl, refl), (refl, refl), (refl, refl))

-- as of places 1 and 0
pub as-of-1 :
    ((edits_of (5 ∷ []) no_codes (take 1 log) ≡ 121 ∷ []) × (shortest_run (5 ∷ []) (take 1 log) ≡ 1)) ×
    ((edits_of (6 ∷ []) no_codes (take 1 log) ≡ 0 ∷ []) × (shortest_run (6 ∷ []) (take 1 log) ≡ 1)) ×
    ((edits_of (5 ∷ []) no_codes (take 0 log) ≡ 0 ∷ []) × (shortest_run (5 ∷ []) (take 0 log) ≡ 0))
unfolding edit_after edits least_up_to pick both all_b
as-of-1 = ((refl, refl), (refl, refl), (refl, refl))

-- a kept code is shown where the entries have no edit, line 9's too, which is 0; it is no edit of a run, so that the same words are read
abbrev kept : List ℕ
kept = set (set (set no_codes 5 8) 7 51) 9 1

pub behind-kept :
    ((edits_of (5 ∷ 6 ∷ 5 ∷ []) kept first ≡ 141 ∷ 1 ∷ 141 ∷ []) × (shortest_run (5 ∷ 6 ∷ 5 ∷ []) first ≡ 3)) ×
    ((edits_of (7 ∷ 8 ∷ 9 ∷ []) kept first ≡ 51 ∷ 0 ∷ 1 ∷ []) × (shortest_run (7 ∷ 8 ∷ 9 ∷ []) first ≡ 4)) ×
    ((edits_of (5 ∷ []) kept (take 0 log) ≡ 8 ∷ []) × (shortest_run (5 ∷ []) (take 0 log) ≡ 0))
unfolding edit_after edits least_up_to pick both all_b
behind-kept = ((refl, refl), (refl, refl), (refl, refl))

-- the walk, word by word
pub walked :
    (walk_back (5 ∷ 6 ∷ 5 ∷ []) first ≡ record { frame = Some 140 ∷ Some 0 ∷ Some 140 ∷ []; words = 3 }) ×
    (walk_back (5 ∷ 7 ∷ []) first ≡ record { frame = Some 140 ∷ None ∷ []; words = 4 }) ×
    (walk_back [] first ≡ record { frame = []; words = 0 })
unfolding walk pick both all_b
walked = (refl, refl, refl)
