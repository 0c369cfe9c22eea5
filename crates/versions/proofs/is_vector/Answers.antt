-- The length is all that is tested.
use mathlib.Core.Path.{refl}
use Rattle.versions.specs.Versions.{is_vector}
use Rattle.versions.proofs.is_vector.Goals as goal

pub returns : goal.returns
unfolding is_vector
returns c = refl
