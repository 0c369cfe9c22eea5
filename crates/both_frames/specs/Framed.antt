-- What a frame's answer says: the number of document 01, and the edit that is shown, none where the call is refused. Assumes nothing.
use Rattle.std.specs.Prelude.{ℕ, Option, None, Result, Ok, Err}
use Rattle.refusals.specs.declared.Refusal.{Refusal}
use Rattle.refusals.specs.Refusals.{number_of}

pub record Framed : Type 0 where
  pub number : ℕ
  pub edit : Option ℕ

-- "a refused frame call answers it too": no edit yet
abbrev pub refused_frame : ℕ → Framed
refused_frame number = record { number = number; edit = None }

abbrev pub framed_of : Result (Option ℕ) Refusal → Framed
framed_of (Ok edit) = record { number = 0; edit = edit }
framed_of (Err refusal) = refused_frame (number_of refusal)
