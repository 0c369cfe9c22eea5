-- The numbers of the refusals, as documents 01 and 02 give them; 0 is the number of a call that is done. Assumes nothing.
use Rattle.std.specs.Prelude.{ℕ, Result, Ok, Err}
use Rattle.refusals.specs.declared.Refusal.{Refusal}
use Rattle.refusals.specs.declared.Refusal.TheVariants.{Unsound, Founding, NoEntry, TailFull, LogFull, OutputShort, NoMessage, OtherOffices, OwnMessage, OtherLog, PartFull, NoHouseholds, NoPlace, NoVector, NoWeights, BeginsPast, EndsInside}

abbrev pub number_of : Refusal → ℕ
number_of Unsound = 1
number_of Founding = 2
number_of NoEntry = 3
number_of TailFull = 4
number_of LogFull = 5
number_of OutputShort = 6
number_of NoMessage = 7
number_of OtherOffices = 8
number_of OwnMessage = 9
number_of OtherLog = 10
number_of PartFull = 11
number_of NoHouseholds = 12
number_of NoPlace = 13
number_of NoVector = 14
number_of NoWeights = 15
number_of BeginsPast = 16
number_of EndsInside = 17

-- the number of an answer: 0 when it is done
abbrev pub number_in : {A : Type 0} → Result A Refusal → ℕ
number_in (Ok x) = 0
number_in (Err r) = number_of r
