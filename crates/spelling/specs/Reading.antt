-- The strict reading: whether bytes are of the layout (..Ok), and what they say (..At). Each definition speaks of the bytes from a
-- position on. The layout's tests say nothing of the limits: `valid_content` does. Assumes nothing.
use Rattle.std.specs.Prelude.{ℕ, zero, suc, ◌+◌, ◌-◌, ◌*◌, Bool, true, List, [], ◌∷◌, leb, eqb, length, get_or, drop}
use Rattle.std.specs.Prelude.{Option, None, Some}
use Rattle.lists.specs.Tests.{both, pick}
use Rattle.spelling.specs.Content.{Content, valid_content}
use Rattle.spelling.specs.Spelling.{length_place, dropped_place, head_size}
use Rattle.numbers.specs.Numbers.{be16, be32, be64, run_at, run_ok}

-- the head: its mark, room for all of it, and no more dropped than settled
abbrev pub sender_at : List ℕ → ℕ
sender_at s = get_or s 2 0

abbrev pub count_at : List ℕ → ℕ
count_at s = get_or s 3 0

unfoldable pub settled_at : List ℕ → ℕ
settled_at s = be64 (drop (length_place (count_at s)) s)

unfoldable pub dropped_at : List ℕ → ℕ
dropped_at s = be64 (drop (dropped_place (count_at s)) s)

-- how many entries follow
abbrev pub held_at : List ℕ → ℕ
held_at s = settled_at s - dropped_at s

unfoldable pub head_ok : List ℕ → Bool
head_ok s =
    both (leb 4 (length s))
    (both (eqb (get_or s 0 0) 0x53)
    (both (eqb (get_or s 1 0) 0x48)
    (both (leb (head_size (count_at s)) (length s)) (leb (dropped_at s) (settled_at s)))))

-- "the rest of the message after the head"
unfoldable pub rest_at : List ℕ → List ℕ
rest_at s = drop (head_size (count_at s)) s

-- a log record: its mark, and room for its value
unfoldable pub record_here : List ℕ → Bool
record_here s = both (leb 6 (length s)) (both (eqb (get_or s 0 0) 0x4C) (eqb (get_or s 1 0) 0x47))

unfoldable pub record_at : List ℕ → ℕ
record_at s = be32 (drop 2 s)

-- whether a ballot of office o comes next
unfoldable pub ballot_next : List ℕ → ℕ → Bool
ballot_next s o = both (leb 4 (length s)) (both (eqb (get_or s 0 0) 0x42) (both (eqb (get_or s 1 0) 0x41) (eqb (get_or s 2 0) o)))

-- its tail length, and its tail, which is empty where none comes
abbrev pub length_at : List ℕ → ℕ
length_at s = get_or s 3 0

unfoldable pub tail_at : List ℕ → ℕ → List ℕ
tail_at s o = pick (ballot_next s o) (run_at 4 be32 (length_at s) (drop 4 s)) []

-- where a ballot of office o comes next: "tail length 1 to 32", and room for the values
unfoldable pub ballot_ok : List ℕ → ℕ → Bool
ballot_ok s o = pick (ballot_next s o) (both (leb 1 (length_at s)) (both (leb (length_at s) 32) (leb (4 + 4 * length_at s) (length s)))) true

-- how many bytes the ballot of office o takes, and what stands after it
unfoldable pub size_at : List ℕ → ℕ → ℕ
size_at s o = pick (ballot_next s o) (4 + 4 * length_at s) 0

unfoldable pub after_ballot : List ℕ → ℕ → List ℕ
after_ballot s o = drop (size_at s o) s

-- the ballots of c offices from office o on, "offices rising", and then the end mark and nothing
unfoldable pub tails_at : List ℕ → ℕ → ℕ → List (List ℕ)
tails_at s o zero = []
tails_at s o (suc c) = tail_at s o ∷ tails_at (after_ballot s o) (suc o) c

unfoldable pub end_ok : List ℕ → Bool
end_ok s = both (eqb (length s) 2) (both (eqb (get_or s 0 0) 0x45) (eqb (get_or s 1 0) 0x4E))

unfoldable pub ballots_ok : List ℕ → ℕ → ℕ → Bool
ballots_ok s o zero = end_ok s
ballots_ok s o (suc c) = both (ballot_ok s o) (ballots_ok (after_ballot s o) (suc o) c)

-- the records after the head of a message with n offices and k undropped entries
unfoldable pub records_ok : List ℕ → ℕ → ℕ → Bool
records_ok s n k = both (run_ok 6 record_here k s) (ballots_ok (drop (6 * k) s) 0 n)

unfoldable pub layout_ok : List ℕ → Bool
layout_ok s = both (head_ok s) (records_ok (rest_at s) (count_at s) (held_at s))

unfoldable pub content_at : List ℕ → Content
content_at s =
    record {
      sender = sender_at s;
      n = count_at s;
      weights = run_at 2 be16 (count_at s) (drop 4 s);
      dropped = dropped_at s;
      log = run_at 6 record_at (held_at s) (rest_at s);
      tails = tails_at (drop (6 * held_at s) (rest_at s)) 0 (count_at s);
    }

-- what a message says, if it is one: of the layout, and within the limits
unfoldable pub reading : List ℕ → Option Content
reading s = pick (both (layout_ok s) (valid_content (content_at s))) (Some (content_at s)) None
