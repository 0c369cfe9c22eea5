-- The message of the rehearsal's example, and one of an office that has dropped entries, written and read by the definitions alone. Assumes
-- nothing.
use Prim.Native.Nat.{ℕ}
use mathlib.Core.List.{List, [], ◌∷◌, ◌++◌}
use Rattle.std.specs.Prelude.{None, Some}
use mathlib.Core.Path.{◌≡◌, refl}
use Rattle.protocol.specs.Entry.{is_entry, proper}
use Rattle.protocol.specs.Counts.{counts_after}
use Rattle.protocol.specs.Fair.{fair}
use Rattle.protocol.specs.Limits.{is_office, is_weight, is_empty, log_fine, tail_fine, tails_fine, office_fine, length_limit, lengths_fine, folded_fine}
use Rattle.lists.specs.Tests.{all_b, both, pick}
use Rattle.spelling.specs.Content.{Content, as_packet, eight_tails, valid_content}
use Rattle.numbers.specs.Numbers.{bytes32, bytes64, run_ok, run_at, bytes16, be16, run, be32, be64}
use Rattle.spelling.specs.Reading.{
  size_at,
  tail_at,
  tails_at,
  ballot_ok,
  settled_at,
  dropped_at,
  reading,
  end_ok,
  head_ok,
  ballots_ok,
  records_ok,
  rest_at,
  content_at,
  record_here,
  layout_ok,
  ballot_next,
  after_ballot,
  record_at,
}
use Rattle.spelling.specs.Spelling.{head_bytes, ballot_bytes, spelling, ballots_bytes, log_record, end_bytes}

-- the head of office `sender`, of the last two bytes of its settled length and of its dropped count
abbrev pub head : ℕ → List ℕ → List ℕ → List ℕ
head sender settled dropped = 83 ∷ 72 ∷ sender ∷ 3 ∷ 0 ∷ 40 ∷ 0 ∷ 35 ∷ 0 ∷ 25 ∷ 0 ∷ 0 ∷ 0 ∷ 0 ∷ 0 ∷ 0 ∷ (settled ++ (0 ∷ 0 ∷ 0 ∷ 0 ∷ 0 ∷ 0 ∷ dropped))

pub message : Content
message = record { sender = 0; n = 3; weights = 40 ∷ 35 ∷ 25 ∷ []; dropped = 0; log = []; tails = (327800 ∷ []) ∷ [] ∷ [] ∷ [] }

pub bytes : List ℕ
bytes = head 0 (0 ∷ 0 ∷ []) (0 ∷ 0 ∷ []) ++ (66 ∷ 65 ∷ 0 ∷ 1 ∷ 0 ∷ 5 ∷ 0 ∷ 120 ∷ 69 ∷ 78 ∷ [])

pub written : spelling message ≡ bytes
unfolding message bytes spelling head_bytes run bytes16 bytes32 bytes64 log_record ballots_bytes ballot_bytes end_bytes
written = refl

-- the same with 258 entries dropped and one settled behind them
pub folded : Content
folded = record { sender = 1; n = 3; weights = 40 ∷ 35 ∷ 25 ∷ []; dropped = 258; log = 327800 ∷ []; tails = [] ∷ [] ∷ [] ∷ [] }

pub folded_bytes : List ℕ
folded_bytes = head 1 (1 ∷ 3 ∷ []) (1 ∷ 2 ∷ []) ++ (76 ∷ 71 ∷ 0 ∷ 5 ∷ 0 ∷ 120 ∷ 69 ∷ 78 ∷ [])

pub folded-written : spelling folded ≡ folded_bytes
unfolding folded folded_bytes spelling head_bytes run bytes16 bytes32 bytes64 log_record ballots_bytes ballot_bytes end_bytes
folded-written = refl

-- both are read back; "a message with more dropped than settled is 7"
pub read : (reading bytes ≡ Some message) × (reading folded_bytes ≡ Some folded) × (reading (head 1 (1 ∷ 2 ∷ []) (1 ∷ 3 ∷ []) ++ (69 ∷ 78 ∷ [])) ≡ None)
unfolding message bytes folded folded_bytes reading pick both layout_ok content_at head_ok records_ok settled_at dropped_at rest_at be16 be32 be64 run run_at
    run_ok record_here record_at ballots_ok ballot_ok ballot_next tails_at tail_at size_at after_ballot end_ok valid_content is_office is_weight as_packet eight_tails
    folded_fine lengths_fine length_limit office_fine log_fine tails_fine tail_fine fair counts_after is_empty is_entry proper all_b
read = (refl, refl, refl)
