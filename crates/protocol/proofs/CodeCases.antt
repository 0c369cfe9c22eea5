-- Requests (ii) and (ix), computed on the definitions: codes after a log, as they are stored, and what they say of a line. Assumes nothing.
use mathlib.Core.Path.{◌≡◌, refl}
use mathlib.Core.List.{[], ◌∷◌}
use Rattle.std.specs.Prelude.{None, Some}
use Rattle.protocol.specs.Entry.{value}
use Rattle.protocol.specs.Codes.{edit_in, no_codes, codes_after}
use Rattle.protocol.proofs.Cases.{a, b, d}

pub codes :
    -- no edit yet, and apart from it code 0
    (edit_in no_codes 5 ≡ None) × (edit_in (codes_after no_codes (value 0 5 0 ∷ [])) 5 ≡ Some 0) ×
    -- the last edit of a line; of a line without one there is none
    (edit_in (codes_after no_codes (a ∷ d ∷ b ∷ [])) 5 ≡ Some 130) × (edit_in (codes_after no_codes (a ∷ d ∷ b ∷ [])) 6 ≡ Some 7) × (edit_in (codes_after no_codes (a ∷ d ∷ b ∷ [])) 7 ≡ None) ×
    -- a move changes no code
    (codes_after no_codes (value 0 65 20 ∷ []) ≡ no_codes)
unfolding codes_after
codes = (refl, refl, refl, refl, refl, refl)
