-- A store with a broken rule is not legal.
use Rattle.std.proofs.Common.{ℕ, List, ◌≢◌, ◌<◌, ◌%◌, arith, ⊎_elim}
use Rattle.columnar_core.specs.Bytes.{word}
use Rattle.columnar_core.specs.Frame.{IsLegal}
use Rattle.columnar_core.specs.FrameLaws.{table_of}
use Rattle.columnar_bytes.specs.StructureFaults.{IsBroken}
use Rattle.columnar_core.specs.declared.fault.StoreFault.{StoreFault}
use Rattle.columnar_core.specs.declared.fault.StoreFault.TheVariants.{NotWords, Empty, FirstOffset, Table, SliceCount, PastEnd, Backwards, ElementSize, HeadSize, Parts, Bounds, Counts, TailBits, Value, Lookback, Stride, Variant, Tree, Length}

pub broken_refused : (bytes : List ℕ) (n : ℕ) (fault : StoreFault) → IsBroken bytes n fault → IsLegal bytes n → ⊥
broken_refused bytes n (NotWords i) b h = b.1 h.whole
broken_refused bytes n (Empty i) b h = let t = table_of bytes n h in omega arith
broken_refused bytes n (FirstOffset i) b h =
    let t = table_of bytes n h in
    let e = t.first in
    ⊎_elim (λ (l : word bytes 0 < 8). omega arith) (λ (r : word bytes 0 % 8 ≢ 0). omega arith) b.1
broken_refused bytes n (Table i) b h = let t = table_of bytes n h in omega arith
broken_refused bytes n (SliceCount i) b h = let t = table_of bytes n h in b.1 t.first
broken_refused bytes n (PastEnd i) b h = let t = table_of bytes n h in let p = t.placed i b.0 in omega arith
broken_refused bytes n (Backwards i) b h = let t = table_of bytes n h in let p = t.placed i b.0 in omega arith
broken_refused bytes n (ElementSize i) b h = b
broken_refused bytes n (HeadSize i) b h = b
broken_refused bytes n (Parts i) b h = b
broken_refused bytes n (Bounds i) b h = b
broken_refused bytes n (Counts i) b h = b
broken_refused bytes n (TailBits i) b h = b
broken_refused bytes n (Value i) b h = b
broken_refused bytes n (Lookback i) b h = b
broken_refused bytes n (Stride i) b h = b
broken_refused bytes n (Variant i) b h = b
broken_refused bytes n (Tree i) b h = b
broken_refused bytes n (Length i) b h = b
