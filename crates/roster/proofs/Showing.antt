-- What the lines of a view show about the bytes it was opened from.
use Rattle.std.proofs.Common.{ℕ, List, ◌≡◌, ◌∙◌, ap}
use Rattle.columnar.specs.Accepted.{Accepts}
use Rattle.columnar.specs.Format.{Format, Content}
use Rattle.columnar.specs.Frame.{framed_slices}
use Rattle.roster.specs.Ages.{roster_ages}
use Rattle.roster.specs.Uses.{shown, ShowsAges}

pub shows_of : (f : Format) (bytes text : List ℕ) (view opened : Content) → Accepts f bytes → opened ≡ f.build (framed_slices bytes) → view ≡ opened
    → text ≡ shown roster_ages f view → ShowsAges f text
shows_of f bytes text view opened accepted held same told = (bytes, (accepted, told ∙ ap (λ c. shown roster_ages f c) (same ∙ held)))
