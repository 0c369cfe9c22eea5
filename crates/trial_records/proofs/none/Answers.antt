-- A founding with zeros is all zero, refused or not.
use mathlib.Core.Path.{◌≡◌, refl, ap, ◌∙◌}
use Rattle.lists.proofs.Tests.{pick-cases}
use Rattle.frame.specs.State.{zero_record}
use Rattle.frame.specs.Founding.{found_of}
use Rattle.frame.specs.declared.Record.{Record}
use Rattle.frame.specs.declared.founding.Founded.{Founded}
use Rattle.trial_records.proofs.none.Goals as goal

abbrev Zero : Record → Type 0
Zero r = r ≡ zero_record

pub returns : goal.returns
unfolding found_of
returns c =
    ap (λ (f : Founded). f.«record») c.found.ensures ∙
    pick-cases Zero _ _ _ (λ e. pick-cases Zero _ _ _ (λ e. refl) (λ e. refl)) (λ e. refl)
