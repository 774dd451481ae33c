use Rattle.std.proofs.Common.{List, ℕ, ◌≡◌, subst, sym}
use Rattle.columnar_core.specs.Frame.{IsStore, framed_slices}
use Rattle.columnar_core.specs.ByteLaws.{le_bytes-words, store-store_bytes, slices-store_bytes}
use Rattle.columnar_bytes.proofs.indexed.laws.words_are_framed.Goals as goal

pub returns : goal.returns
returns c = record {
  store = λ slices l b. subst (λ (t : List ℕ). IsStore t) (sym (le_bytes-words slices b)) (store-store_bytes slices l);
  slices = λ slices l b. subst (λ (t : List ℕ). framed_slices t ≡ slices) (sym (le_bytes-words slices b)) (slices-store_bytes slices l);
}
