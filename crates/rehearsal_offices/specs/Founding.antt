-- "`f n w…` founds n offices with the 0 to 8 weights given, the rest zero, and empties the four message slots (0 to 3). A refused `f` changes
-- nothing and prints office 0's number." Assumes nothing.
use Rattle.std.specs.Prelude.{ℕ, zero, suc, List, [], ◌∷◌, eqb, replicate}
use Rattle.lists.specs.Tests.{pick}
use Rattle.rehearsal_commands.specs.Command.{letter_f}
use Rattle.frame.specs.declared.Record.{Record}
use Rattle.frame.specs.Founding.{found_of}
use Rattle.rehearsal_replies.specs.Answers.{says_one}
use Rattle.rehearsal_offices.specs.World.{log_of}
use Rattle.rehearsal_offices.specs.declared.Offices.{Offices}
use Rattle.rehearsal_offices.specs.declared.founding.Reply.{Reply}

-- what Found gives at office k; all zero from office n on
unfoldable pub fresh_at : ℕ → List ℕ → List ℕ → ℕ → Record
fresh_at n ws logs k = (found_of n k ws (log_of logs k)).record

-- the records of `count` offices from office k on
unfoldable pub fresh_from : ℕ → List ℕ → List ℕ → ℕ → ℕ → List Record
fresh_from n ws logs zero k = []
fresh_from n ws logs (suc count) k = fresh_at n ws logs k ∷ fresh_from n ws logs count (suc k)

-- "office 0's number"
abbrev pub found_number : ℕ → List ℕ → List ℕ → ℕ
found_number n ws logs = (found_of n 0 ws (log_of logs 0)).number

-- a done founding makes the offices anew and empties the slots
abbrev pub fresh_offices : ℕ → List ℕ → List ℕ → Offices
fresh_offices n ws logs = record { count = n; records = fresh_from n ws logs 8 0; lengths = replicate 4 0 }

unfoldable pub found_offices : Offices → ℕ → List ℕ → List ℕ → Reply
found_offices offices n ws logs =
    record {
      offices = pick (eqb (found_number n ws logs) 0) (fresh_offices n ws logs) offices;
      answer = says_one letter_f (found_number n ws logs);
    }
