-- What a stored code says.
--     code-said      one that is not 0 is a code + 1
--     cell-said      one that stores an edit says that edit
-- Assumes nothing.
use mathlib.Core.Path.{◌≡◌, ap, ◌∙◌}
use Rattle.std.specs.Prelude.{Option, Some}
use Prim.Native.Nat.{ℕ, zero, suc, ◌-◌, ◌<◌}
use native.Mathlib.Nat.{not-suc-le-zero}
use native.Mathlib.Omega.{arith}
use Rattle.protocol.specs.Codes.{cell}
use Rattle.protocol_laws.proofs.Codes.{cell-back}
use Rattle.shown_edits.specs.Shown.{stored_edit}

pub code-said : (stored : ℕ) → 0 < stored → Some (stored - 1) ≡ stored_edit stored
code-said zero h = absurd (not-suc-le-zero h)
code-said (suc code) h = ap Some (omega arith)

pub cell-said : (stored : ℕ) (o : Option ℕ) → stored ≡ cell o → stored_edit stored ≡ o
cell-said stored o e = ap stored_edit e ∙ cell-back o
