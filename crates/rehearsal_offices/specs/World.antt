-- The rehearsal's world: the offices' records and the lengths of the messages in the slots, the eight logs in one list and the four slots
-- in another. Assumes nothing.
use Rattle.std.specs.Prelude.{ℕ, List, replicate}
use Rattle.frame.specs.State.{zero_record}
use Rattle.rehearsal_slots.specs.Pieces.{piece_of}
use Rattle.rehearsal_offices.specs.declared.Offices.{Offices}

pub record World : Type 0 where
  pub offices : Offices
  pub logs : List ℕ
  pub slots : List ℕ

-- the log of office k: 1024 words
abbrev pub log_of : List ℕ → ℕ → List ℕ
log_of logs k = piece_of 1024 logs k

-- no office, and empty slots
abbrev pub no_offices : Offices
no_offices = record { count = 0; records = replicate 8 zero_record; lengths = replicate 4 0 }
