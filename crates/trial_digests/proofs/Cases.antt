-- Digests of the example in docs/TRIALS.md, computed.
--     settled-part      of `P`: the one settled word
--     codes-part      of `A`: the 64 stored codes
--     founded      of `F`: the record, the log's length and words, the output's length
-- Assumes nothing.
use mathlib.Core.List.{List, [], ◌∷◌, ◌++◌}
use mathlib.Core.Path.{◌≡◌, refl}
use Prim.Native.Nat.{ℕ}
use lib.ListN.{set, replicate}
use Rattle.frame.specs.State.{fresh_record}
use Rattle.trial_digests.specs.Digest.{digest_with, digest_from, all_numbers, numbers_of}

settled-part : digest_from 0 (327800 ∷ []) ≡ 327801
unfolding digest_with
settled-part = refl

codes-part : digest_from 0 (set (replicate 64 0) 5 121) ≡ 3517391187
unfolding digest_with
codes-part = refl

abbrev weights : List ℕ
weights = 40 ∷ 35 ∷ 25 ∷ 0 ∷ 0 ∷ 0 ∷ 0 ∷ 0 ∷ []

founded : digest_from 0 (numbers_of (fresh_record 3 0 weights) ++ (1024 ∷ (replicate 1024 4294967295 ++ (0 ∷ [])))) ≡ 909801632
unfolding digest_with all_numbers
founded = refl
