-- The uses whose second or third word is a type.
use Rattle.std.proofs.Common.{Global, String, refl, subst}
use Rattle.std.specs.Prelude.{ℕ, true, false, List, ◌≡◌, Option, codes, string_bytes}
use Rattle.columnar_syntax.specs.declared.schema.Bounds.TheVariants.{Words, Unaries}
use Rattle.columnar_tool.specs.Flags.{reads}
use Rattle.columnar_tool.specs.Uses.{Ends, Lists, MakesOf, use_of_three, use_of_two}

pub slices_two : (verb word : String Global) (text : List ℕ) (input : Option (List ℕ)) (status : ℕ) (before after : Option (List ℕ)) → reads verb (codes "slices") ≡ true → text ≡ string_bytes word → Lists Unaries text status before after → Ends (use_of_two verb word) input status before after
slices_two verb word text input status before after h e l = rw h (subst (λ (t : List ℕ). Lists Unaries t status before after) e l)

pub slices_three : (verb flag word : String Global) (text : List ℕ) (input : Option (List ℕ)) (status : ℕ) (before after : Option (List ℕ)) → reads verb (codes "slices") ≡ true → reads flag (codes "--rust") ≡ true → text ≡ string_bytes word → Lists Words text status before after → Ends (use_of_three verb flag word) input status before after
slices_three verb flag word text input status before after h k e l = rw (h, k) (subst (λ (t : List ℕ). Lists Words t status before after) e l)

pub make_two : (verb word : String Global) (text : List ℕ) (input : Option (List ℕ)) (status : ℕ) (before after : Option (List ℕ)) → reads verb (codes "slices") ≡ false → reads verb (codes "table") ≡ false → reads verb (codes "make") ≡ true → text ≡ string_bytes word → MakesOf Unaries text input status before after → Ends (use_of_two verb word) input status before after
make_two verb word text input status before after h k m e l = rw (h, k, m) (subst (λ (t : List ℕ). MakesOf Unaries t input status before after) e l)

pub make_three : (verb flag word : String Global) (text : List ℕ) (input : Option (List ℕ)) (status : ℕ) (before after : Option (List ℕ)) → string_bytes verb ≡ codes "make" → reads flag (codes "--rust") ≡ true → text ≡ string_bytes word → MakesOf Words text input status before after → Ends (use_of_three verb flag word) input status before after
make_three verb flag word text input status before after v k e l =
    let h : reads verb (codes "slices") ≡ false = rw v refl in
    let m : reads verb (codes "make") ≡ true = rw v refl in
    rw (h, m, k) (subst (λ (t : List ℕ). MakesOf Words t input status before after) e l)
