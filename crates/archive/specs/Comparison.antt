-- Request (xi): "Read one vector to answer, for the log and then each of those paths, whether by counts it comes before, equals, comes after or
-- stands beside that vector". Assumes nothing.
use Rattle.std.specs.Prelude.{ℕ, List, [], eqb, replicate}
use Rattle.lists.specs.Tests.{pick}
use Rattle.versions.specs.Versions.{answers_to, beside, counts_in, is_vector, nine}
use Rattle.frame.specs.Soundness.{sound_b}
use Rattle.frame.specs.declared.Record.{Record}
use Rattle.archive.specs.Writing.{start_of, versions}
use Rattle.archive.specs.declared.Compared.{Compared}

-- "a refusal answers beside to all"
abbrev pub no_answers : ℕ → Compared
no_answers number = record { number = number; answers = replicate 9 beside }

-- 1: "record unsound, or log below 1024 words"; 14, "after number 1": "when a vector read hasn't exactly n counts", which (xiv) "become 8 bytes and
-- lose that limit" of 1024
unfoldable pub compare_number : Record → List ℕ → List ℕ → ℕ
compare_number r words s = pick (sound_b r words) (pick (is_vector r.n s) 0 14) 1

-- "a refusal answers beside to all"
unfoldable pub compare_of : Record → List ℕ → List ℕ → Compared
compare_of r words s = record {
  number = compare_number r words s;
  answers = nine (pick (eqb (compare_number r words s) 0) (answers_to (start_of r) (counts_in r.n s) (versions r words)) []);
}
