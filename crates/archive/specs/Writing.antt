-- Request (xi): "Write, and answer the length of, the vectors .. of the settled log and then of all n offices' paths"; (xiv) their counts start from
-- the kept ones. Assumes nothing.
use Rattle.std.specs.Prelude.{ℕ, List, eqb, ltb, length, take}
use Rattle.lists.specs.Tests.{pick}
use Rattle.lists.specs.Padded.{in_front}
use Rattle.vectors.specs.Vectors.{versions_bytes, versions_of}
use Rattle.frame.specs.State.{held_by}
use Rattle.frame.specs.Soundness.{sound_b}
use Rattle.frame.specs.declared.Record.{Record}
use Rattle.archive.specs.declared.Written.{Written}

-- the kept counts of the n offices
abbrev pub start_of : Record → List ℕ
start_of r = take r.n r.kept.counts

-- the log and the n paths of a record with its log, without the dropped entries
abbrev pub versions : Record → List ℕ → List (List ℕ)
versions r words = versions_of r.n (held_by r words)

-- the bytes of their vectors
abbrev pub vectors_of : Record → List ℕ → List ℕ
vectors_of r words = versions_bytes (start_of r) (versions r words)

-- nothing is written, and the call has this number
abbrev pub no_vectors : ℕ → Written
no_vectors number = record { number = number; length = 0 }

-- 1: "record unsound, or log below 1024 words"; "6, after 1, if the output is too short"
unfoldable pub write_number : Record → List ℕ → List ℕ → ℕ
write_number r words out = pick (sound_b r words) (pick (ltb (length out) (length (vectors_of r words))) 6 0) 1

-- length 0 where it is refused
unfoldable pub write_of : Record → List ℕ → List ℕ → Written
write_of r words out = record {
  number = write_number r words out;
  length = pick (eqb (write_number r words out) 0) (length (vectors_of r words)) 0;
}

-- the output after it: later bytes keep their contents, and all of them where it is refused
unfoldable pub write_bytes : Record → List ℕ → List ℕ → List ℕ
write_bytes r words out = pick (eqb (write_number r words out) 0) (in_front (vectors_of r words) out) out
