-- Stores one after the other.
use Rattle.std.proofs.Common.{◌≡◌, ℕ, ◌+◌, ◌-◌, ◌<◌, ◌≤◌, Bool, true, false, List, [], ◌∷◌, ◌++◌, length, take, drop, refl, sym, ◌∙◌, ap, arith, append_assoc, append-nil, length-append}
use Rattle.std.specs.Prelude.{Option, All, IsTrue, ◌↔◌, ◌&&◌, ◌==◌}
use Rattle.std.proofs.lemmas.Bool.{eqb-true}
use Rattle.std.specs.Io.KnownBytes.{Appends}
use Rattle.std.specs.List.{flat_map}
use Rattle.std.proofs.lemmas.List.{take_at, drop_at}
use Rattle.std.proofs.lemmas.List.Elements.{All-cons, All-head, All-push, All-tail}
use Rattle.std.proofs.lemmas.List.{take_all}
use Rattle.columnar_base.specs.Row.{Row}
use Rattle.columnar_bytes.specs.Accepted.{Accepts}
use Rattle.columnar_bytes.specs.StreamFaults.{IsFlaw}
use Rattle.columnar_bytes.specs.Streams.{rest_in, stores_in}
use Rattle.columnar_core.specs.SentLaws.{appends_both, appends_none}
use Rattle.columnar_core.specs.declared.fault.StoreFault.{StoreFault}
use Rattle.columnar_json.specs.ItemLaws.{flat_more}
use Rattle.columnar_json.specs.Pieces.{Piece}
use Rattle.columnar_json.specs.declared.view.View.{View}
use Rattle.columnar_syntax.specs.declared.schema.Schema.{Schema}
use Rattle.columnar_schema.specs.Formats.{format_of}
use Rattle.columnar_tool.specs.Lines.{Prints, Stops, lines_of, rows_in}
use Rattle.columnar_tool.specs.LineLaws.{prints_both, prints_none}
use Rattle.columnar_tool.specs.Spans.{chosen}
use Rattle.columnar_tool.specs.Stores.{AreAccepted, IsReport, Reports, StopsAtStore, ended, label_of, store_lines, tested, torn}
use Rattle.columnar_tool.specs.Verdicts.{IsFaultLine, IsVerdict}
use Rattle.columnar_tool.specs.declared.cat.Stop.{Stop}
use Rattle.columnar_tool.specs.declared.cat.Stop.TheVariants.{Refused}
use Rattle.columnar_tool.specs.declared.file.Wanted.{Wanted}
use Rattle.columnar_tool.specs.declared.range.TheConstants.{ALL}

all_none : (P : List ℕ → Type 0) → All P []
all_none P i d h = absurd (omega arith)

-- the first n of all stores, each of which is accepted, were printed
pub record Printed (P : List ℕ → Type 0) (f : List ℕ → List Piece) (all left : List (List ℕ)) (n : ℕ) (old new : Option (List ℕ)) : Type 0 where
  pub done : List (List ℕ)
  pub stores : all ≡ done ++ left
  pub counted : length done ≡ n
  pub accepted : All P done
  pub text : Prints old new (flat_map f done)

pub printed_none : (P : List ℕ → Type 0) (f : List ℕ → List Piece) (all : List (List ℕ)) (old : Option (List ℕ)) → Printed P f all all 0 old old
printed_none P f all old = record { done = []; stores = refl; counted = refl; accepted = all_none P; text = prints_none old }

pub printed_more : (P : List ℕ → Type 0) (f : List ℕ → List Piece) (all left later : List (List ℕ)) (store : List ℕ) (n : ℕ) (old mid new : Option (List ℕ)) → Printed P f all left n old mid → left ≡ store ∷ later → P store → Prints mid new (f store) → Printed P f all later (n + 1) old new
printed_more P f all left later store n old mid new p e a t = record {
  done = p.done ++ (store ∷ []);
  stores = p.stores ∙ ap (λ z. p.done ++ z) e ∙ sym (append_assoc p.done (store ∷ []) later);
  counted = omega (arith, length-append p.done (store ∷ []), p.counted);
  accepted = All-push P p.done store p.accepted a;
  text = rw (flat_more f p.done store) (prints_both old mid new (flat_map f p.done) (f store) p.text t);
}

pub printed_all : (P : List ℕ → Type 0) (f : List ℕ → List Piece) (all left : List (List ℕ)) (n : ℕ) (old new : Option (List ℕ)) → Printed P f all left n old new → left ≡ [] → All P all × Prints old new (flat_map f all)
printed_all P f all left n old new p e =
    let k : all ≡ p.done = p.stores ∙ ap (λ z. p.done ++ z) e ∙ append-nil p.done in
    rw k (p.accepted, p.text)

-- the stores before one, and that one and the later ones
pub printed_first : (P : List ℕ → Type 0) (f : List ℕ → List Piece) (all left : List (List ℕ)) (n : ℕ) (old new : Option (List ℕ)) → Printed P f all left n old new → All P (take n all) × Prints old new (flat_map f (take n all)) × (drop n all ≡ left)
printed_first P f all left n old new p =
    let t : take n all ≡ p.done = ap (take n) p.stores ∙ take_at p.done left n p.counted in
    let d : drop n all ≡ left = ap (drop n) p.stores ∙ drop_at p.done left n p.counted in
    (rw t (p.accepted), rw t (p.text), d)

-- some of all stores were tested
pub record Tested (P : List ℕ → Type 0) (all left : List (List ℕ)) (ok : Bool) : Type 0 where
  pub done : List (List ℕ)
  pub stores : all ≡ done ++ left
  pub verdict : IsTrue ok ↔ All P done

pub tested_none : (P : List ℕ → Type 0) (all : List (List ℕ)) → Tested P all all true
tested_none P all = record { done = []; stores = refl; verdict = (λ h. all_none P, λ h. refl) }

all_front : (P : List ℕ → Type 0) (xs : List (List ℕ)) (x : List ℕ) → All P (xs ++ (x ∷ [])) → All P xs × P x
all_front P [] x h = (all_none P, All-head P x [] h)
all_front P (y ∷ xs) x h =
    let k = all_front P xs x (All-tail P y (xs ++ (x ∷ [])) h) in
    (All-cons P y xs (All-head P y (xs ++ (x ∷ [])) h) k.0, k.1)

and_parts : (a b : Bool) → IsTrue (a && b) → IsTrue a × IsTrue b
and_parts true b h = (refl, h)
and_parts false b h = absurd (cc (h))

and_both : (a b : Bool) → IsTrue a → IsTrue b → IsTrue (a && b)
and_both true b h k = k
and_both false b h k = absurd (cc (h))

pub tested_more : (P : List ℕ → Type 0) (all left later : List (List ℕ)) (store : List ℕ) (ok one : Bool) → Tested P all left ok → left ≡ store ∷ later → (IsTrue one ↔ P store) → Tested P all later (ok && one)
tested_more P all left later store ok one t e v = record {
  done = t.done ++ (store ∷ []);
  stores = t.stores ∙ ap (λ z. t.done ++ z) e ∙ sym (append_assoc t.done (store ∷ []) later);
  verdict = (λ h. let k = and_parts ok one h in All-push P t.done store (t.verdict.0 k.0) (v.0 k.1), λ h. let k = all_front P t.done store h in and_both ok one (t.verdict.1 k.0) (v.1 k.1));
}

pub tested_all : (P : List ℕ → Type 0) (all left : List (List ℕ)) (ok : Bool) → Tested P all left ok → left ≡ [] → IsTrue ok ↔ All P all
tested_all P all left ok t e =
    let k : all ≡ t.done = t.stores ∙ ap (λ z. t.done ++ z) e ∙ append-nil t.done in
    rw k (t.verdict)

-- all rows are in the range of all
pub all_chosen : (rs : List Row) → chosen ALL rs ≡ rs
all_chosen rs = let m : length rs - 0 ≡ length rs = omega arith in rw m (take_all (length rs) rs (omega arith))

-- The first n stores were printed; the later ones begin at `rest`.
pub record Passing (v : View) (s : Schema) (bytes rest : List ℕ) (n : ℕ) (old new : Option (List ℕ)) : Type 0 where
  pub printed : Printed (Accepts (format_of s)) (store_lines v s) (stores_in bytes) (stores_in rest) n old new
  pub torn : rest_in bytes ≡ rest_in rest
  pub left : n + length rest ≤ length bytes

pub passing_none : (v : View) (s : Schema) (bytes : List ℕ) (old : Option (List ℕ)) → Passing v s bytes bytes 0 old old
passing_none v s bytes old = record { printed = printed_none (Accepts (format_of s)) (store_lines v s) (stores_in bytes) old; torn = refl; left = omega arith }

pub passing_more : (v : View) (s : Schema) (bytes rest store after : List ℕ) (n : ℕ) (old mid new : Option (List ℕ)) → Passing v s bytes rest n old mid → stores_in rest ≡ store ∷ stores_in after → rest_in rest ≡ rest_in after → length after < length rest → Accepts (format_of s) store → Prints mid new (lines_of v s (chosen ALL (rows_in s store))) → Passing v s bytes after (n + 1) old new
passing_more v s bytes rest store after n old mid new p e r l a t = record {
  printed = printed_more (Accepts (format_of s)) (store_lines v s) (stores_in bytes) (stores_in rest) (stores_in after) store n old mid new p.printed e a (rw (all_chosen (rows_in s store)) at t);
  torn = p.torn ∙ r;
  left = omega (arith, p.left);
}

empty_list : (rest : List ℕ) → length rest ≡ 0 → rest ≡ []
empty_list [] h = refl
empty_list (x ∷ rest) h = absurd (omega arith)

pub passing_all : (v : View) (s : Schema) (bytes rest : List ℕ) (n : ℕ) (old new : Option (List ℕ)) → Passing v s bytes rest n old new → length rest ≡ 0 → AreAccepted (format_of s) bytes × Prints old new (flat_map (store_lines v s) (stores_in bytes))
passing_all v s bytes rest n old new p h =
    let e = empty_list rest h in
    let a = printed_all (Accepts (format_of s)) (store_lines v s) (stores_in bytes) (stores_in rest) n old new p.printed (ap stores_in e) in
    ((a.0, p.torn ∙ ap rest_in e), a.1)

-- the bytes after the first n stores are no store
pub passing_torn : (v : View) (s : Schema) (bytes rest : List ℕ) (n : ℕ) (fault : StoreFault) (old new : Option (List ℕ)) → Passing v s bytes rest n old new → stores_in rest ≡ [] → rest_in rest ≡ rest → IsFlaw rest (length rest) fault → StopsAtStore v s bytes old new n (Refused fault)
passing_torn v s bytes rest n fault old new p e r f =
    let k = printed_first (Accepts (format_of s)) (store_lines v s) (stores_in bytes) (stores_in rest) n old new p.printed in
    (new, (k.0, (k.1, rw (k.2 ∙ e, p.torn ∙ r) (f, refl))))

-- store n stops the program
pub passing_stopped : (v : View) (s : Schema) (bytes rest store after : List ℕ) (n : ℕ) (stop : Stop) (old mid new : Option (List ℕ)) → Passing v s bytes rest n old mid → stores_in rest ≡ store ∷ stores_in after → Stops v s ALL store mid new stop → StopsAtStore v s bytes old new n stop
passing_stopped v s bytes rest store after n stop old mid new p e h =
    let k = printed_first (Accepts (format_of s)) (store_lines v s) (stores_in bytes) (stores_in rest) n old mid p.printed in
    (mid, (k.0, (k.1, rw (k.2 ∙ e) h)))

-- The first n stores were tested; the later ones begin at `rest`.
pub record Testing (s : Schema) (bytes rest : List ℕ) (n : ℕ) (ok : Bool) : Type 0 where
  pub tested : Tested (Accepts (format_of s)) (stores_in bytes) (stores_in rest) ok
  pub torn : rest_in bytes ≡ rest_in rest
  pub left : n + length rest ≤ length bytes

pub testing_none : (s : Schema) (bytes : List ℕ) → Testing s bytes bytes 0 true
testing_none s bytes = record { tested = tested_none (Accepts (format_of s)) (stores_in bytes); torn = refl; left = omega arith }

verdict_is : (s : Schema) (wanted : Wanted) (label bytes line : List ℕ) (ok : Bool) → IsVerdict s wanted label bytes ok line → IsTrue ok ↔ Accepts (format_of s) bytes
verdict_is s wanted label bytes line true v = (λ h. v.0, λ h. refl)
verdict_is s wanted label bytes line false v = (λ h. absurd (cc (h)), λ h. absurd (v.0 h))

pub testing_more : (s : Schema) (wanted : Wanted) (bytes rest store after label line : List ℕ) (n : ℕ) (ok one : Bool) → Testing s bytes rest n ok → stores_in rest ≡ store ∷ stores_in after → rest_in rest ≡ rest_in after → length after < length rest → IsVerdict s wanted label store one line → Testing s bytes after (n + 1) (ok && one)
testing_more s wanted bytes rest store after label line n ok one t e r l v = record {
  tested = tested_more (Accepts (format_of s)) (stores_in bytes) (stores_in rest) (stores_in after) store ok one t.tested e (verdict_is s wanted label store line one v);
  torn = t.torn ∙ r;
  left = omega (arith, t.left);
}

pub testing_all : (s : Schema) (bytes rest : List ℕ) (n : ℕ) (ok : Bool) → Testing s bytes rest n ok → length rest ≡ 0 → IsTrue ok ↔ AreAccepted (format_of s) bytes
testing_all s bytes rest n ok t h =
    let e = empty_list rest h in
    let a = tested_all (Accepts (format_of s)) (stores_in bytes) (stores_in rest) ok t.tested (ap stores_in e) in
    (λ k. (a.0 k, t.torn ∙ ap rest_in e), λ k. a.1 k.0)

-- a list that is empty has no items
pub is_none : (rest : List ℕ) (empty : Bool) → empty ≡ (length rest == 0) → empty ≡ true → length rest ≡ 0
is_none rest empty e h = eqb-true (length rest) 0 (sym e ∙ h)

-- A line was printed for each of the first n stores; the later ones begin at `rest`.
pub record Told (s : Schema) (wanted : Wanted) (path bytes rest : List ℕ) (n : ℕ) (ok : Bool) (old new : Option (List ℕ)) : Type 0 where
  pub text : List ℕ
  pub printed : Appends old new text
  pub goes_on : (later : Bool) (more : List ℕ) → Reports s wanted path n (stores_in rest) (rest_in rest) later more → Reports s wanted path 0 (stores_in bytes) (rest_in bytes) (ok && later) (text ++ more)

pub told_none : (s : Schema) (wanted : Wanted) (path bytes : List ℕ) (old : Option (List ℕ)) → Told s wanted path bytes bytes 0 true old old
told_none s wanted path bytes old = record { text = []; printed = appends_none old; goes_on = λ later more r. r }

and_all : (a b c : Bool) → (a && b) && c ≡ a && (b && c)
and_all true b c = refl
and_all false b c = refl

and_true : (a : Bool) → a && true ≡ a
and_true true = refl
and_true false = refl

and_false : (a : Bool) → a && false ≡ false
and_false true = refl
and_false false = refl

pub told_more : (s : Schema) (wanted : Wanted) (path bytes rest store after label line : List ℕ) (n : ℕ) (ok one : Bool) (old mid new : Option (List ℕ)) → Told s wanted path bytes rest n ok old mid → stores_in rest ≡ store ∷ stores_in after → rest_in rest ≡ rest_in after → label ≡ label_of path n → IsVerdict s wanted label store one line → Appends mid new line → Told s wanted path bytes after (n + 1) (ok && one) old new
told_more s wanted path bytes rest store after label line n ok one old mid new t e r l v p = record {
  text = t.text ++ line;
  printed = appends_both old mid new t.text line t.printed p;
  goes_on =
      λ later more q.
      let k : Reports s wanted path n (store ∷ stores_in after) (rest_in after) (one && later) (line ++ more) = tested line more one later (rw l at v) q in
      rw (and_all ok one later, append_assoc t.text line more) (t.goes_on (one && later) (line ++ more) (rw (e, r) k));
}

pub told_all : (s : Schema) (wanted : Wanted) (path bytes rest : List ℕ) (n : ℕ) (ok : Bool) (old new : Option (List ℕ)) → Told s wanted path bytes rest n ok old new → length rest ≡ 0 → IsReport s wanted path bytes ok old new
told_all s wanted path bytes rest n ok old new t h =
    let e = empty_list rest h in
    let k : Reports s wanted path n (stores_in rest) (rest_in rest) true [] = rw (ap stores_in e, ap rest_in e) ended in
    (t.text, (rw (and_true ok, append-nil t.text) at (t.goes_on true [] k), t.printed))

-- the bytes after the first n stores are no store
pub told_torn : (s : Schema) (wanted : Wanted) (path bytes rest label line : List ℕ) (n : ℕ) (ok : Bool) (fault : StoreFault) (old mid new : Option (List ℕ)) → Told s wanted path bytes rest n ok old mid → stores_in rest ≡ [] → rest_in rest ≡ rest → IsFlaw rest (length rest) fault → label ≡ label_of path n → IsFaultLine label fault line → Appends mid new line → IsReport s wanted path bytes false old new
told_torn s wanted path bytes rest label line n ok fault old mid new t e r f l w p =
    let k : Reports s wanted path n (stores_in rest) (rest_in rest) false line = rw (e, r) (torn fault f (rw l at w)) in
    (t.text ++ line, (rw (and_false ok) at (t.goes_on false line k), appends_both old mid new t.text line t.printed p))
