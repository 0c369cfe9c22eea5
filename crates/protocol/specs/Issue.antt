-- "Issue (line, code) appends the entry to the office's own ballot." Assumes nothing.
use Rattle.std.specs.Prelude.{[], ◌∷◌, ◌++◌, not, ℕ, ◌+◌, eqb, leb, set}
use Rattle.lists.specs.Tests.{pick}
use Rattle.protocol.specs.Entry.{proper}
use Rattle.protocol.specs.Office.{Office, tail}
use Rattle.protocol.specs.Fair.{part}
use Rattle.protocol.specs.Limits.{length_limit}

-- office k's state with entry e issued
unfoldable pub with_issue : ℕ → ℕ → Office → Office
with_issue k e o = record { log = o.log; tails = set o.tails k (tail o k ++ (e ∷ [])) }

-- 3: a line and a code that no entry of n offices has
unfoldable pub refuse_entry : ℕ → ℕ → ℕ → ℕ
refuse_entry n line code = pick (not (proper n line code)) 3 0

-- 3; 5: "settled length + own tail length = 1024", and (xiv) "the 1024 limit then covers what is undropped. Dropped entries included, length plus
-- tail is at most 2^63: .. an issue at it meets 5"; 11: "the own office already has its part in its own tail", tested where 4 stood, which never
-- occurs. By n, the line and the code, the settled length, the held part's, the own tail's, and how many entries of the tail are the own office's
unfoldable pub refusal_at : ℕ → ℕ → ℕ → ℕ → ℕ → ℕ → ℕ → ℕ
refusal_at n line code settled held len count =
    pick (not (proper n line code)) 3
    (pick (eqb (held + len) 1024) 5
    (pick (eqb (settled + len) length_limit) 5
    (pick (leb (part n) count) 11 0)))
