-- Parts without rows are a column of variants without rows.
use Rattle.std.proofs.Common.{◌≡◌, ℕ, zero, suc, ◌<◌, [], length, refl, ap, arith}
use Rattle.columnar_core.specs.Format.{Format, Content, both, IsSound}
use Rattle.columnar_core.specs.TwoPartsLaws.{two_sound}
use Rattle.columnar_sums.specs.Discriminants.{times, variants_of, discriminant_format}
use Rattle.columnar_variants.specs.Variants.{Bank, IsBank, leaf, join, leaf_table, join_table, variants_format}
use Rattle.columnar_variants.specs.VariantLaws.{variants_sound}
use Rattle.columnar_variants.specs.VariantRows.{IsBare}
use Rattle.columnar_sums.specs.Results.{beside_format}
use Rattle.columnar_sums.specs.ResultLaws.{beside_two}

pub beside_sound : (a b : Format) {x y : Content} → IsSound a x → IsSound b y → IsSound (beside_format a b) (both x y)
beside_sound a b {x} {y} s t = two_sound (beside_two a b) x y (record { left = s; right = t; own = refl })

pub leaf_bare : (a : Format) {x : Content} → a.rows x ≡ [] → IsBare (leaf a) x
leaf_bare a {x} h = bare_at a x h
  where
    bare_at : (a : Format) (x : Content) → a.rows x ≡ [] → (v : ℕ) → v < 1 → length (leaf_table a x v) ≡ 0
    bare_at a x h zero l = ap length h
    bare_at a x h (suc v) l = refl

pub join_bare : (a : Format) (b : Bank) {x : Content} (y : Content) → a.rows x ≡ [] → IsBare b y → IsBare (join a b) (both x y)
join_bare a b {x} y h g = bare_at a b x y h g
  where
    bare_at : (a : Format) (b : Bank) (x y : Content) → a.rows x ≡ [] → IsBare b y → (v : ℕ) → v < suc b.size → length (join_table a b (both x y) v) ≡ 0
    bare_at a b x y h g zero l = ap length h
    bare_at a b x y h g (suc v) l = g v (omega arith)

pub variants_none : (b : Bank) → IsBank b → {x y : Content} → IsSound b.sides x → IsBare b x → IsSound discriminant_format y → variants_of y ≡ [] → IsSound (variants_format b) (both x y)
variants_none b law {x} {y} s h t e = variants_sound b (record { parts = s; forms = t; below = rw e refl; told = rw e (law.tells_back x (λ v. times v []) s (λ v l. h v l)) })

pub variants_no_rows : (b : Bank) (x y : Content) → variants_of y ≡ [] → (variants_format b).rows (both x y) ≡ []
variants_no_rows b x y e = rw e refl
