-- One byte more of the text without what is no part of its type.
use Rattle.std.proofs.Common.{◌≡◌, ℕ, suc, ◌+◌, ◌<◌, ◌≤◌, Bool, true, false, List, [], ◌∷◌, ◌++◌, length, drop, refl, sym, ◌∙◌, ap, arith, append_assoc, append-nil}
use Rattle.std.specs.Prelude.{cond, get_or, not}
use Rattle.std.proofs.lemmas.List.{drop_more}
use Rattle.std.proofs.Math.Seq.{drop-length}
use Rattle.columnar_syntax.specs.Plain.{ends_well, is_open, last_mode, next, plain, plain_after, shows}
use Rattle.columnar_syntax.specs.declared.plain.Mode.{Mode}
use Rattle.columnar_syntax.specs.declared.plain.Mode.TheVariants.{Code}

pub plain_goes_on : (text before after : List ℕ) (i b d c : ℕ) (m k : Mode) → i < length text → b ≡ get_or text i d → k ≡ next m b (drop (i + 1) text) → c ≡ cond (shows k) b 32 → after ≡ before ++ (c ∷ []) → plain text ≡ before ++ plain_after m (drop i text) → plain text ≡ after ++ plain_after k (drop (i + 1) text)
plain_goes_on text before after i b d c m k l e f g h p =
    p ∙ (ap (λ z. before ++ plain_after m z) (drop_more text i d l) ∙ rw (h, g, f, e) (sym (append_assoc before (cond (shows (next m (get_or text i d) (drop (i + 1) text))) (get_or text i d) 32 ∷ []) (plain_after (next m (get_or text i d) (drop (i + 1) text)) (drop (i + 1) text)))))

pub mode_goes_on : (text : List ℕ) (i b d : ℕ) (m k : Mode) → i < length text → b ≡ get_or text i d → k ≡ next m b (drop (i + 1) text) → last_mode Code text ≡ last_mode m (drop i text) → last_mode Code text ≡ last_mode k (drop (i + 1) text)
mode_goes_on text i b d m k l e f p = p ∙ (ap (λ z. last_mode m z) (drop_more text i d l) ∙ rw (f, e) refl)

-- at the end of the text
pub plain_ends : (text before : List ℕ) (m : Mode) → plain text ≡ before ++ plain_after m (drop (length text) text) → before ≡ plain text
plain_ends text before m p = sym (p ∙ (ap (λ z. before ++ plain_after m z) (drop-length text) ∙ append-nil before))

pub mode_ends : (text : List ℕ) (m : Mode) (b : Bool) → b ≡ is_open m → last_mode Code text ≡ last_mode m (drop (length text) text) → ends_well text ≡ not b
mode_ends text m b e p = ap (λ z. not (is_open z)) (p ∙ ap (λ z. last_mode m z) (drop-length text)) ∙ ap not (sym e)

after_length : (m : Mode) (ns : List ℕ) → length (plain_after m ns) ≡ length ns
after_length m [] = refl
after_length m (n ∷ ns) = ap suc (after_length (next m n ns) ns)

-- what is left keeps its position
pub plain_length : (text : List ℕ) → length (plain text) ≡ length text
plain_length text = after_length Code text
