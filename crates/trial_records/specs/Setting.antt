-- The lines that set a part of the record: what each letter does. The letters are ASCII codes. Assumes nothing.
use Rattle.std.specs.Prelude.{ℕ, ◌%◌, Bool, true, ◌||◌, List, eqb, get_or, set, replicate}
use Rattle.lists.specs.Tests.{pick}
use Rattle.ballots.specs.Ballots.{off_end}
use Rattle.ballots.specs.declared.Ballot.{Ballot}
use Rattle.summary.specs.declared.Summary.{Summary}
use Rattle.kept.specs.declared.Kept.{Kept}
use Rattle.frame.specs.declared.Record.{Record}
use Rattle.frame.specs.State.{with_held, with_kept, with_noted, with_ballots}
use Rattle.trial_lines.specs.declared.line.Line.{Line}
use Rattle.trial_lines.specs.Writing.{has_room, put_into, low32, whole, weights_from}

-- the letters
abbrev pub letter_a : ℕ
letter_a = 97

abbrev pub letter_b : ℕ
letter_b = 98

abbrev pub letter_f : ℕ
letter_f = 102

abbrev pub letter_j : ℕ
letter_j = 106

abbrev pub letter_k : ℕ
letter_k = 107

abbrev pub letter_n : ℕ
letter_n = 110

abbrev pub letter_p : ℕ
letter_p = 112

abbrev pub letter_q : ℕ
letter_q = 113

abbrev pub letter_r : ℕ
letter_r = 114

abbrev pub letter_t : ℕ
letter_t = 116

-- the line has this letter
abbrev pub is : Line → ℕ → Bool
is l letter = eqb l.letter letter

-- whether the part that the line writes into has room for its numbers
unfoldable pub fits_record : Line → Bool
fits_record l =
    pick (is l letter_j || is l letter_k) (has_room l 2 1 l.first 64)
    (pick (is l letter_n || is l letter_t) (has_room l 2 1 l.first 8)
    (pick (is l letter_a) (has_room l 3 1 l.second 32) true))

-- with other present weights, and with codes that the line writes
abbrev pub with_present : Summary → List ℕ → Summary
with_present s present = record { present = present; codes = s.codes }

abbrev pub with_codes : Summary → Line → Summary
with_codes s l = record { present = s.present; codes = put_into low32 l 2 1 l.first s.codes }

-- with another summary of what was dropped, and with the line's numbers in a list of eight
abbrev pub with_kept_summary : Kept → Summary → Kept
with_kept_summary k s = record { dropped = k.dropped; summary = s; counts = k.counts }

abbrev pub with_numbers : List ℕ → Line → List ℕ
with_numbers xs l = put_into whole l 2 1 l.first xs

-- `f` sets the dropped count, `q` the kept weights, `j` writes kept codes, `t` kept counts
unfoldable pub set_kept : Kept → Line → Kept
set_kept k l =
    pick (is l letter_f) (record { dropped = l.first; summary = k.summary; counts = k.counts })
    (pick (is l letter_q) (with_kept_summary k (with_present k.summary (weights_from l 1)))
    (pick (is l letter_j) (with_kept_summary k (with_codes k.summary l))
    (record { dropped = k.dropped; summary = k.summary; counts = with_numbers k.counts l })))

-- `r` sets n, the own office, the founding, the present and the kept weights, and the settled length
abbrev pub set_head : Record → Line → Record
set_head r l = record {
  n = l.first;
  own = l.second;
  weights = weights_from l 3;
  kept = with_kept_summary r.kept (with_present r.kept.summary (weights_from l 3));
  noted = r.noted;
  summary = with_present r.summary (weights_from l 3);
  settled = get_or l.numbers 11 0;
  ballots = r.ballots;
}

-- a ballot with the cells that the line writes
abbrev pub with_cells : Ballot → Line → Ballot
with_cells b l = record { len = b.len; cells = put_into low32 l 3 1 l.second b.cells }

-- `b` gives a ballot its length field and 32 zero cells, `a` writes its cells
unfoldable pub set_ballots : List Ballot → Line → List Ballot
set_ballots bs l =
    set bs (l.first % 8)
    (pick (is l letter_b) (record { len = l.second; cells = replicate 32 0 }) (with_cells (get_or bs (l.first % 8) off_end) l))

-- the record with another summary
abbrev pub with_summary : Record → Summary → Record
with_summary r s = with_held r r.kept r.noted s r.settled r.ballots

-- `p` sets the present weights, `k` writes stored codes, `n` noted lengths; a letter of no line is taken for `a`
unfoldable pub set_record : Record → Line → Record
set_record r l =
    pick (is l letter_r) (set_head r l)
    (pick (is l letter_p) (with_summary r (with_present r.summary (weights_from l 1)))
    (pick (is l letter_k) (with_summary r (with_codes r.summary l))
    (pick (is l letter_n) (with_noted r (with_numbers r.noted l))
    (pick (is l letter_f || (is l letter_j || (is l letter_q || is l letter_t))) (with_kept r (set_kept r.kept l))
    (with_ballots r (set_ballots r.ballots l))))))
