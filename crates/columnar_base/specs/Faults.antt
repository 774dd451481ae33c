-- The numbers of the rules, and the fault that a call returns.
use Rattle.std.specs.Prelude.{ℕ, Option, Some, None, Result, Ok, Err}
use Rattle.columnar_base.specs.Format.{Fault, fault}
use Rattle.columnar_base.specs.declared.fault.StoreFault.{StoreFault}
use Rattle.columnar_base.specs.declared.fault.StoreFault.TheVariants.{NotWords, Empty, FirstOffset, Table, SliceCount, PastEnd, Backwards, ElementSize, HeadSize, Parts, Bounds, Counts, TailBits, Value, Lookback, Stride, Variant, Tree, Length}

-- the number of the broken rule
abbrev pub fault_number : StoreFault → ℕ
fault_number (NotWords s) = 1
fault_number (Empty s) = 2
fault_number (FirstOffset s) = 3
fault_number (Table s) = 4
fault_number (SliceCount s) = 5
fault_number (PastEnd s) = 6
fault_number (Backwards s) = 7
fault_number (ElementSize s) = 8
fault_number (HeadSize s) = 9
fault_number (Parts s) = 10
fault_number (Bounds s) = 11
fault_number (Counts s) = 12
fault_number (TailBits s) = 13
fault_number (Value s) = 14
fault_number (Lookback s) = 15
fault_number (Stride s) = 16
fault_number (Variant s) = 17
fault_number (Tree s) = 18
fault_number (Length s) = 19

-- the slice that breaks it
abbrev pub fault_slice : StoreFault → ℕ
fault_slice (NotWords s) = s
fault_slice (Empty s) = s
fault_slice (FirstOffset s) = s
fault_slice (Table s) = s
fault_slice (SliceCount s) = s
fault_slice (PastEnd s) = s
fault_slice (Backwards s) = s
fault_slice (ElementSize s) = s
fault_slice (HeadSize s) = s
fault_slice (Parts s) = s
fault_slice (Bounds s) = s
fault_slice (Counts s) = s
fault_slice (TailBits s) = s
fault_slice (Value s) = s
fault_slice (Lookback s) = s
fault_slice (Stride s) = s
fault_slice (Variant s) = s
fault_slice (Tree s) = s
fault_slice (Length s) = s

-- the broken rule that a fault names
abbrev pub fault_of : StoreFault → Fault
fault_of f = fault (fault_number f) (fault_slice f)

-- the broken rule that a test returns, if any
abbrev pub verdict : {A : Type 0} → Result A StoreFault → Option Fault
verdict (Ok x) = None
verdict (Err e) = Some (fault_of e)
