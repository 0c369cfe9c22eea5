-- "Settled hands back the settled part of the lent log", since (xiv) "the undropped part". Assumes nothing.
use Rattle.std.specs.Prelude.{ℕ, List, []}
use Rattle.lists.specs.Tests.{pick}
use Rattle.frame.specs.State.{held_by}
use Rattle.frame.specs.Soundness.{sound_b}
use Rattle.frame.specs.declared.Record.{Record}

-- "empty part" where it is refused
unfoldable pub settled_of : Record → List ℕ → List ℕ
settled_of r words = pick (sound_b r words) (held_by r words).log []

-- "its number always in a lent cell"
unfoldable pub settled_number : Record → List ℕ → ℕ
settled_number r words = pick (sound_b r words) 0 1
