use Rattle.std.specs.Prelude.{ℕ, List, drop}
use Rattle.columnar_core.specs.Frame.{framed_slices}
use Rattle.columnar_core.specs.declared.store.DecodedStore.{DecodedStore}
use Rattle.columnar_core.specs.declared.store.Decode.{Decode}

-- the slices of a store
abbrev pub slices_in : DecodedStore → List (List ℕ)
slices_in store = framed_slices store.bytes.now

-- the remaining slices
abbrev pub slices_left : Decode → List (List ℕ)
slices_left decode = drop decode.index (slices_in decode.store)
