-- Laws of the format of offsets in unary, and growth, refusals and truncations of its bits.
use Rattle.std.proofs.Common.{◌≡◌, ℕ, zero, suc, ◌+◌, ◌≤◌, Bool, true, false, ◌||◌, List, [], ◌∷◌, ◌++◌, length, take, map, refl, sym, ◌∙◌, ap, arith, append-nil}
use Rattle.std.specs.Prelude.{nat_le, nat_eq, ◌&&◌}
use Rattle.std.proofs.Math.Seq.{take-length}
use Rattle.std.proofs.lemmas.List.{map-append, length-map, take-map, take-append-le}
use Rattle.std.proofs.lemmas.Bool.{or_right, le-leb}
use Rattle.columnar_core.specs.Row.{Row, number, number_of, truth, row_eq}
use Rattle.columnar_core.specs.Format.{Format, Content, IsSound, IsLawful, IsStorable, IsExact, fault, Excess, too_many, misplaced, refuses_more}
use Rattle.columnar_core.specs.FaultLaws.{nothing_left, nothing_both, unless_true, true_unless}
use Rattle.columnar_core.specs.AlikeLaws.{row_eq_same, row_eq_exact, alike_all}
use Rattle.columnar_core.specs.Change.{Keeps, Stayed, WasCut, Took, Refused}
use Rattle.columnar_core.specs.ChangeLaws.{grew_exactly, true_from}
use Rattle.columnar_core.specs.Bounds.{rises, numbers, last_or, IsBounds}
use Rattle.columnar_core.specs.declared.fault.GrowError.{GrowError}
use Rattle.columnar_sums.specs.Unary.{is_set, unary_bits, ends_of, falses, last_bit, upto, runs, falls, is_misplaced, unary_end, unary_refuses, unary}
use Rattle.columnar_sums.specs.UnaryListLaws.{set_truths, ends-append, last-falses, upto-within, upto-all, upto-append, upto-mono, ends_cut, upto-cut, cut-ended, last-append, runs-ended, ends-runs, runs-append, falls-append, last-or-append}

-- what the soundness of offsets in unary consists of
pub record SoundUnary (f : Format) (c : Content) : Type 0 where
  pub bits : IsSound f c
  pub ended : last_bit true (unary_bits f c) ≡ true

pub unary_parts : (f : Format) {c : Content} → IsSound (unary f) c → SoundUnary f c
unary_parts f {c} s =
    let p = nothing_left (f.broken c) _ s.accepted in
    record { bits = record { accepted = p.0 }; ended = unless_true (last_bit true (unary_bits f c)) (fault 11 0) p.1 }

pub unary_sound : (f : Format) {c : Content} → SoundUnary f c → IsSound (unary f) c
unary_sound f {c} s = record { accepted = nothing_both (f.broken c) _ s.bits.accepted (true_unless (last_bit true (unary_bits f c)) (fault 11 0) s.ended) }

pub length-offsets : (f : Format) (c : Content) → length ((unary f).rows c) ≡ length (ends_of 0 (unary_bits f c))
length-offsets f c = length-map (ends_of 0 (unary_bits f c)) number

pub length-bits : (f : Format) (c : Content) → length (unary_bits f c) ≡ length (f.rows c)
length-bits f c = length-map (f.rows c) is_set

-- all offsets have all bits
pub upto_rows : (f : Format) {c : Content} → SoundUnary f c → upto (unary_bits f c) (length ((unary f).rows c)) ≡ length (f.rows c)
upto_rows f {c} p = ap (upto (unary_bits f c)) (length-offsets f c) ∙ (upto-all true 0 (unary_bits f c) p.ended).1 ∙ length-bits f c

either : (a b c d : Bool) → (a ≡ true → c ≡ true) → (b ≡ true → d ≡ true) → (a || b) ≡ true → (c || d) ≡ true
either true b c d p q h = rw (p refl) refl
either false true c d p q h = or_right c d (q refl)
either false false c d p q h = cc

or_left : (a b : Bool) → a ≡ true → (a || b) ≡ true
or_left true b h = refl
or_left false b h = cc

falls-more : (e : Excess) (from : ℕ) (xs ys : List ℕ) → (is_misplaced e && falls from xs) ≡ true → (is_misplaced e && falls from (xs ++ ys)) ≡ true
falls-more too_many from xs ys h = cc
falls-more misplaced from xs ys h = falls-append from xs ys ∙ or_left (falls from xs) (falls (last_or from xs) ys) h

unary_more : (f : Format) → IsLawful f → (e : Excess) (c : Content) (n : ℕ) (rs ss : List Row) → unary_refuses f e c n rs ≡ true → unary_refuses f e c n (rs ++ ss) ≡ true
unary_more f l e c n rs ss h =
    let from : ℕ = unary_end f c n in
    let w : numbers (rs ++ ss) ≡ numbers rs ++ numbers ss = map-append number_of rs ss in
    either (f.refuses e c (upto (unary_bits f c) n) (map truth (runs from (numbers rs)))) (is_misplaced e && falls from (numbers rs)) (f.refuses e c (upto (unary_bits f c) n) (map truth (runs from (numbers (rs ++ ss))))) (is_misplaced e && falls from (numbers (rs ++ ss)))
    (λ k. rw (w, runs-append from (numbers rs) (numbers ss), map-append truth (runs from (numbers rs)) (runs (last_or from (numbers rs)) (numbers ss))) (l.more e c (upto (unary_bits f c) n) (map truth (runs from (numbers rs))) (map truth (runs (last_or from (numbers rs)) (numbers ss))) k))
    (λ k. rw w (falls-more e from (numbers rs) (numbers ss) k)) h

pub unary_lawful : (f : Format) → IsLawful f → IsLawful (unary f)
unary_lawful f l = record {
  full = λ c s. let p = unary_parts f s in ap (f.extent c) (upto_rows f p) ∙ l.full c p.bits;
  same = row_eq_same;
  kindred = row_eq_same;
  related = λ r s h. h;
  more = unary_more f l;
}

pub unary_storable : (f : Format) → IsStorable f → IsStorable (unary f)
unary_storable f l = record {
  swift = l.swift;
  sized = l.sized;
  aligned = l.aligned;
  counted = λ c s. l.counted c (unary_parts f s).bits;
  rebuilt = λ c rest s. l.rebuilt c rest (unary_parts f s).bits;
  built = l.built;
}

pub numbers_back : (ns : List ℕ) → numbers (map number ns) ≡ ns
numbers_back [] = refl
numbers_back (n ∷ ns) = ap (λ (t : List ℕ). n ∷ t) (numbers_back ns)

pub unary_bounds : (f : Format) → f.turns ≤ 8 → IsBounds (unary f)
unary_bounds f l = record { exact = row_eq_exact; swift = l; are_numbers = λ c s. ap (map number) (sym (numbers_back (ends_of 0 (unary_bits f c)))) }

-- ---- rows that stay

-- appended bits leave the first offsets the same
pub unary_kept : (f : Format) {x y : Content} (bs : List Bool) → unary_bits f y ≡ unary_bits f x ++ bs → Keeps f x y (length (f.rows x)) → Keeps (unary f) x y (length ((unary f).rows x))
unary_kept f {x} {y} bs e g = record {
  extents = λ m l.
      let k : m ≤ length (ends_of 0 (unary_bits f x)) = rw (length-offsets f x) at l in
      let u : upto (unary_bits f y) m ≡ upto (unary_bits f x) m = rw e (upto-append 0 (unary_bits f x) bs m k) in
      let w : upto (unary_bits f x) m ≤ length (f.rows x) = omega (arith, upto-within (unary_bits f x) m, length-bits f x) in
      ap (f.extent y) u ∙ g.extents (upto (unary_bits f x) m) w;
  limits = λ m l e' rs.
      let k : m ≤ length (ends_of 0 (unary_bits f x)) = rw (length-offsets f x) at l in
      let u : upto (unary_bits f y) m ≡ upto (unary_bits f x) m = rw e (upto-append 0 (unary_bits f x) bs m k) in
      let w : upto (unary_bits f x) m ≤ length (f.rows x) = omega (arith, upto-within (unary_bits f x) m, length-bits f x) in
      let t : take m (ends_of 0 (unary_bits f y)) ≡ take m (ends_of 0 (unary_bits f x)) = rw (e, ends-append 0 (unary_bits f x) bs) (take-append-le m (ends_of 0 (unary_bits f x)) _ k) in
      let q : unary_end f y m ≡ unary_end f x m = ap (last_or 0) t in
      let v = g.limits (upto (unary_bits f x) m) w e' (map truth (runs (unary_end f x m) (numbers rs))) in
      rw (q, u, v) refl;
}

bits_same : (f : Format) {x y : Content} → f.rows y ≡ f.rows x → unary_bits f y ≡ unary_bits f x
bits_same f e = ap (map is_set) e

pub unary_stayed : (f : Format) {x y : Content} → IsSound (unary f) x → Stayed f x y → Stayed (unary f) x y
unary_stayed f {x} {y} s g =
    let p = unary_parts f s in
    let e = bits_same f g.rows in
    record {
      sound = unary_sound f (record { bits = g.sound; ended = rw e p.ended });
      rows = rw e refl;
      lengths_same = g.lengths_same;
      kept = unary_kept f [] (rw e (sym (append-nil (unary_bits f x)))) g.kept;
    }

-- the offset after all offsets
pub end_of_all : (f : Format) {x : Content} → SoundUnary f x → unary_end f x (length ((unary f).rows x)) ≡ falses 0 (unary_bits f x)
end_of_all f {x} p =
    let k : take (length ((unary f).rows x)) (ends_of 0 (unary_bits f x)) ≡ ends_of 0 (unary_bits f x) = rw (length-offsets f x) (take-length (ends_of 0 (unary_bits f x))) in
    ap (last_or 0) k ∙ last-falses true 0 0 (unary_bits f x) (λ h. refl) p.ended

-- All refusals: the bits refuse the runs after the last offset, or an offset falls.
pub unary_refuse_more : (f : Format) (e : Excess) {x : Content} → SoundUnary f x → (rs : List Row) → refuses_more (unary f) e x rs ≡ (refuses_more f e x (map truth (runs (falses 0 (unary_bits f x)) (numbers rs))) || (is_misplaced e && falls (falses 0 (unary_bits f x)) (numbers rs)))
unary_refuse_more f e {x} p rs = rw (end_of_all f p, upto_rows f p) refl

-- the bits accepted the runs of offsets that do not fall
pub unary_took : (f : Format) {x y : Content} (ns : List ℕ) → IsExact f.alike → IsSound (unary f) x → falls (falses 0 (unary_bits f x)) ns ≡ false → Took f x y (map truth (runs (falses 0 (unary_bits f x)) ns)) → Took (unary f) x y (map number ns)
unary_took f {x} {y} ns ex s h g =
    let p = unary_parts f s in
    let from : ℕ = falses 0 (unary_bits f x) in
    let k = grew_exactly ex g in
    let e : unary_bits f y ≡ unary_bits f x ++ runs from ns = ap (map is_set) k.rows ∙ map-append is_set (f.rows x) (map truth (runs from ns)) ∙ ap (λ (t : List Bool). unary_bits f x ++ t) (set_truths (runs from ns)) in
    let r : ends_of 0 (unary_bits f y) ≡ ends_of 0 (unary_bits f x) ++ ns = ap (ends_of 0) e ∙ ends-append 0 (unary_bits f x) (runs from ns) ∙ ap (λ (t : List ℕ). ends_of 0 (unary_bits f x) ++ t) (ends-runs from ns h) in
    let q : SoundUnary f y = record { bits = k.sound; ended = ap (last_bit true) e ∙ last-append true (unary_bits f x) (runs from ns) ∙ ap (λ (b : Bool). last_bit b (runs from ns)) p.ended ∙ runs-ended from ns } in
    let z : falses 0 (unary_bits f y) ≡ last_or from ns = new_end p q r in
    record {
      fresh = map number ns;
      grew = record {
        sound = unary_sound f q;
        rows = ap (map number) r ∙ map-append number (ends_of 0 (unary_bits f x)) ns;
        kept = unary_kept f (runs from ns) e k.kept;
      };
      alike = alike_all row_eq row_eq_same (map number ns);
      adds = λ e' rs v.
          let w : numbers (map number ns ++ rs) ≡ ns ++ numbers rs = map-append number_of (map number ns) rs ∙ ap (λ (t : List ℕ). t ++ numbers rs) (numbers_back ns) in
          let u : (refuses_more f e' y (map truth (runs (last_or from ns) (numbers rs))) || (is_misplaced e' && falls (last_or from ns) (numbers rs))) ≡ true = rw (unary_refuse_more f e' q rs, z) at v in
          unary_refuse_more f e' p (map number ns ++ rs) ∙
          either (refuses_more f e' y (map truth (runs (last_or from ns) (numbers rs)))) (is_misplaced e' && falls (last_or from ns) (numbers rs)) (refuses_more f e' x (map truth (runs from (numbers (map number ns ++ rs))))) (is_misplaced e' && falls from (numbers (map number ns ++ rs)))
          (λ a. rw (w, runs-append from ns (numbers rs), map-append truth (runs from ns) (runs (last_or from ns) (numbers rs))) (g.adds e' (map truth (runs (last_or from ns) (numbers rs))) a))
          (λ a. rw w (falls_after e' from ns (numbers rs) a)) u;
    }
  where
    new_end : SoundUnary f x → SoundUnary f y → ends_of 0 (unary_bits f y) ≡ ends_of 0 (unary_bits f x) ++ ns → falses 0 (unary_bits f y) ≡ last_or (falses 0 (unary_bits f x)) ns
    new_end p q r = sym (last-falses true 0 0 (unary_bits f y) (λ v. refl) q.ended) ∙ ap (last_or 0) r ∙ last-or-append 0 (ends_of 0 (unary_bits f x)) ns ∙ ap (λ (t : ℕ). last_or t ns) (last-falses true 0 0 (unary_bits f x) (λ v. refl) p.ended)

    falls_after : (e : Excess) (from : ℕ) (xs ys : List ℕ) → (is_misplaced e && falls (last_or from xs) ys) ≡ true → (is_misplaced e && falls from (xs ++ ys)) ≡ true
    falls_after too_many from xs ys h = cc
    falls_after misplaced from xs ys h = falls-append from xs ys ∙ or_right (falls from xs) (falls (last_or from xs) ys) h

-- the bits were truncated after set bit n - 1
pub unary_cut : (f : Format) {x y : Content} {n : ℕ} → IsSound (unary f) x → n ≤ length ((unary f).rows x) → WasCut f x y (upto (unary_bits f x) n) → WasCut (unary f) x y n
unary_cut f {x} {y} {n} s l g =
    let p = unary_parts f s in
    let k : n ≤ length (ends_of 0 (unary_bits f x)) = rw (length-offsets f x) at l in
    let e : unary_bits f y ≡ take (upto (unary_bits f x) n) (unary_bits f x) = ap (map is_set) g.rows ∙ sym (take-map is_set (upto (unary_bits f x) n) (f.rows x)) in
    let r : ends_of 0 (unary_bits f y) ≡ take n (ends_of 0 (unary_bits f x)) = ap (ends_of 0) e ∙ ends_cut 0 (unary_bits f x) n in
    record {
      sound = unary_sound f (record { bits = g.sound; ended = ap (last_bit true) e ∙ cut-ended true 0 (unary_bits f x) n k (λ h. refl) });
      rows = ap (map number) r ∙ sym (take-map number n (ends_of 0 (unary_bits f x)));
      lengths_cut = g.lengths_cut;
      kept = record {
        extents = λ m d.
            let u : upto (unary_bits f y) m ≡ upto (unary_bits f x) m = ap (λ (t : List Bool). upto t m) e ∙ upto-cut 0 (unary_bits f x) m n d k in
            ap (f.extent y) u ∙ g.kept.extents (upto (unary_bits f x) m) (upto-mono (unary_bits f x) m n d);
        limits = λ m d e' rs.
            let u : upto (unary_bits f y) m ≡ upto (unary_bits f x) m = ap (λ (t : List Bool). upto t m) e ∙ upto-cut 0 (unary_bits f x) m n d k in
            let q : unary_end f y m ≡ unary_end f x m = ap (λ (t : List ℕ). last_or 0 (take m t)) r ∙ ap (last_or 0) (take_twice m n (ends_of 0 (unary_bits f x)) d) in
            let v = g.kept.limits (upto (unary_bits f x) m) (upto-mono (unary_bits f x) m n d) e' (map truth (runs (unary_end f x m) (numbers rs))) in
            rw (q, u, v) refl;
      };
    }
  where
    take_twice : (m n : ℕ) (xs : List ℕ) → m ≤ n → take m (take n xs) ≡ take m xs
    take_twice zero n xs l = refl
    take_twice (suc m) zero xs l = absurd (omega arith)
    take_twice (suc m) (suc n) [] l = refl
    take_twice (suc m) (suc n) (x ∷ xs) l = ap (λ (t : List ℕ). x ∷ t) (take_twice m n xs (omega arith))

-- the bits refused the runs
pub unary_refused : (f : Format) {x y : Content} {error : GrowError} (rs : List Row) → IsSound (unary f) x → Refused f x y (map truth (runs (falses 0 (unary_bits f x)) (numbers rs))) error → Refused (unary f) x y rs error
unary_refused f {x} {y} {error} rs s g = record {
  stayed = unary_stayed f s g.stayed;
  cause = true_from f (unary f) x x (map truth (runs (falses 0 (unary_bits f x)) (numbers rs))) rs error (λ e k. unary_refuse_more f e (unary_parts f s) rs ∙ or_left _ (is_misplaced e && falls (falses 0 (unary_bits f x)) (numbers rs)) k) g.cause;
}

-- an offset is below the previous one
pub unary_misplaced : (f : Format) {x : Content} (rs : List Row) → IsSound (unary f) x → falls (falses 0 (unary_bits f x)) (numbers rs) ≡ true → refuses_more (unary f) misplaced x rs ≡ true
unary_misplaced f {x} rs s h = unary_refuse_more f misplaced (unary_parts f s) rs ∙ or_right (refuses_more f misplaced x (map truth (runs (falses 0 (unary_bits f x)) (numbers rs)))) (falls (falses 0 (unary_bits f x)) (numbers rs)) h

-- offsets in unary rise, and end at the number of clear bits
rises_ends : (n : ℕ) (bs : List Bool) (m end : ℕ) (b : Bool) → m ≤ n → (b ≡ true → m ≡ n) → last_bit b bs ≡ true → rises m (ends_of n bs) end ≡ rises (falses n bs) [] end
rises_ends n [] m end b l h e = ap (λ (t : ℕ). rises t [] end) (h e)
rises_ends n (true ∷ bs) m end b l h e = rises_on m n (rises n (ends_of n bs) end) l ∙ rises_ends n bs n end true (omega arith) (λ p. refl) e
  where
    rises_on : (m n : ℕ) (b : Bool) → m ≤ n → (nat_le m n && b) ≡ b
    rises_on m n b l = let h = le-leb m n l in rw h refl
rises_ends n (false ∷ bs) m end b l h e = rises_ends (n + 1) bs m end false (omega arith) (λ p. cc) e

pub unary_rises : (f : Format) {x : Content} (end : ℕ) → IsSound (unary f) x → rises 0 (numbers ((unary f).rows x)) end ≡ nat_eq (falses 0 (unary_bits f x)) end
unary_rises f {x} end s = ap (λ (t : List ℕ). rises 0 t end) (numbers_back (ends_of 0 (unary_bits f x))) ∙ rises_ends 0 (unary_bits f x) 0 end true (omega arith) (λ p. refl) (unary_parts f s).ended
