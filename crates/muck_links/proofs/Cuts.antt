-- The lines of bytes, cut from one buffer to the next.
use Rattle.std.proofs.Common.{◌≡◌, ℕ, zero, suc, Bool, true, false, List, [], ◌∷◌, ◌++◌, length, map, take, refl, sym, ap, ◌∙◌, subst, append_assoc, eqb-true}
use Rattle.std.specs.Prelude.{◌==◌, ◌&&◌, nat_lt, if◌then◌else◌}
use Rattle.std.proofs.lemmas.List.{append-nil}
use Rattle.muck_laws.proofs.Parts.{take_snoc}
use Rattle.muck_links.specs.declared.cutter.Mode.{Mode}
use Rattle.muck_links.specs.declared.cutter.Mode.TheVariants.{Plain, Command, Choice, Inside, Ending}
use Rattle.muck_links.specs.Lines.{next_mode, bare_bytes, onto_first, line_pieces, is_shown_byte, only_shown, line_most, text, lines}
use Rattle.muck_links.specs.inner.Cutting.{Rest, fresh, ends, after_byte, cut_rest, cut_lines}

-- feeding in pieces is feeding the whole
pub rest_append : (r : Rest) (a b : List ℕ) → cut_rest r (a ++ b) ≡ cut_rest (cut_rest r a) b
rest_append r [] b = refl
rest_append r (x ∷ xs) b = rest_append (after_byte r x) xs b

pub lines_append : (r : Rest) (a b : List ℕ) → cut_lines r (a ++ b) ≡ cut_lines r a ++ cut_lines (cut_rest r a) b
lines_append r [] b = refl
lines_append r (x ∷ xs) b = from (lines_append (after_byte r x) xs b) (ends r.mode x)
  where
    from : cut_lines (after_byte r x) (xs ++ b) ≡ cut_lines (after_byte r x) xs ++ cut_lines (cut_rest (after_byte r x) xs) b
        → (t : Bool) → (if t then r.line ∷ cut_lines (after_byte r x) (xs ++ b) else cut_lines (after_byte r x) (xs ++ b))
        ≡ (if t then r.line ∷ cut_lines (after_byte r x) xs else cut_lines (after_byte r x) xs) ++ cut_lines (cut_rest (after_byte r x) xs) b
    from e true = ap (λ (l : List (List ℕ)). r.line ∷ l) e
    from e false = e

-- lines of which the first goes on from here
abbrev under : List ℕ → List (List ℕ) → List (List ℕ)
under xs [] = []
under xs (g ∷ gs) = (xs ++ g) ∷ gs

under_none : (gs : List (List ℕ)) → under [] gs ≡ gs
under_none [] = refl
under_none (g ∷ gs) = refl

under_onto : (xs : List ℕ) (b : ℕ) (gs : List (List ℕ)) → under xs (onto_first b gs) ≡ under (xs ++ b ∷ []) gs
under_onto xs b [] = refl
under_onto xs b (g ∷ gs) = ap (λ (l : List ℕ). l ∷ gs) (sym (append_assoc xs (b ∷ []) g))

shown_snoc : (xs : List ℕ) (b : ℕ) → only_shown (xs ++ b ∷ []) ≡ only_shown xs ++ only_shown (b ∷ [])
shown_snoc [] b = refl
shown_snoc (x ∷ xs) b = from (shown_snoc xs b) (is_shown_byte x)
  where
    from : only_shown (xs ++ b ∷ []) ≡ only_shown xs ++ only_shown (b ∷ []) → (t : Bool) → (if t then x ∷ only_shown (xs ++ b ∷ []) else only_shown (xs ++ b ∷ [])) ≡ (if t then x ∷ only_shown xs else only_shown xs) ++ only_shown (b ∷ [])
    from e true = ap (λ (l : List ℕ). x ∷ l) e
    from e false = e

-- one byte more
text_snoc : (xs : List ℕ) (b : ℕ) → (if is_shown_byte b && nat_lt (length (text xs)) line_most then text xs ++ b ∷ [] else text xs) ≡ text (xs ++ b ∷ [])
text_snoc xs b = from (is_shown_byte b) refl
  where
    from : (t : Bool) → is_shown_byte b ≡ t → (if t && nat_lt (length (text xs)) line_most then text xs ++ b ∷ [] else text xs) ≡ text (xs ++ b ∷ [])
    from true is = sym (take_snoc line_most (only_shown xs) b) ∙ ap (take line_most) (sym (shown_snoc xs b ∙ ap (λ (u : Bool). only_shown xs ++ (if u then b ∷ [] else [])) is))
    from false is = ap (take line_most) (sym (shown_snoc xs b ∙ ap (λ (u : Bool). only_shown xs ++ (if u then b ∷ [] else [])) is ∙ append-nil (only_shown xs)))

text_none : text [] ≡ []
text_none = none line_most
  where
    none : (n : ℕ) → take n (only_shown []) ≡ []
    none zero = refl
    none (suc n) = refl

-- where a machine stands in the midst of a line
cut_from : (bs : List ℕ) (m : Mode) (xs : List ℕ) → cut_lines (record { mode = m; line = text xs }) bs ≡ map text (under xs (line_pieces (bare_bytes m bs)))
cut_from [] m xs = refl
cut_from (b ∷ bs) Command xs = cut_from bs (next_mode Command b) xs
cut_from (b ∷ bs) Choice xs = cut_from bs (next_mode Choice b) xs
cut_from (b ∷ bs) Inside xs = cut_from bs (next_mode Inside b) xs
cut_from (b ∷ bs) Ending xs = cut_from bs (next_mode Ending b) xs
cut_from (b ∷ bs) Plain xs =
    by (b == 10) refl (b == 255) refl (cut_from bs Plain []) (cut_from bs Command xs) (cut_from bs Plain (xs ++ b ∷ []))
  where
    At : ℕ → Type 0
    At z = cut_lines (record { mode = Plain; line = text xs }) (z ∷ bs) ≡ map text (under xs (line_pieces (bare_bytes Plain (z ∷ bs))))

    more : List ℕ
    more = if is_shown_byte b && nat_lt (length (text xs)) line_most then text xs ++ b ∷ [] else text xs

    -- after a test that was false
    No255 : Bool → Type 0
    No255 t = (if b == 10 then text xs ∷ cut_lines (record { mode = if t then Command else Plain; line = if b == 10 then [] else more }) bs
        else cut_lines (record { mode = if t then Command else Plain; line = if b == 10 then [] else more }) bs)
        ≡ map text (under xs (line_pieces (if t then bare_bytes (if t then Command else Plain) bs else b ∷ bare_bytes (if t then Command else Plain) bs)))

    No10 : Bool → Type 0
    No10 t = (if t then text xs ∷ cut_lines (record { mode = Plain; line = if t then [] else more }) bs
        else cut_lines (record { mode = Plain; line = if t then [] else more }) bs)
        ≡ map text (under xs (if t then [] ∷ line_pieces (bare_bytes Plain bs) else onto_first b (line_pieces (bare_bytes Plain bs))))

    by : (t : Bool) → (b == 10) ≡ t → (u : Bool) → (b == 255) ≡ u
        → cut_lines (record { mode = Plain; line = text [] }) bs ≡ map text (under [] (line_pieces (bare_bytes Plain bs)))
        → cut_lines (record { mode = Command; line = text xs }) bs ≡ map text (under xs (line_pieces (bare_bytes Command bs)))
        → cut_lines (record { mode = Plain; line = text (xs ++ b ∷ []) }) bs ≡ map text (under (xs ++ b ∷ []) (line_pieces (bare_bytes Plain bs)))
        → At b
    by true is u other plain command one = subst At (sym (eqb-true b 10 is)) (
        ap (λ (l : List ℕ). text xs ∷ cut_lines (record { mode = Plain; line = l }) bs) (sym text_none)
        ∙ ap (λ (l : List (List ℕ)). text xs ∷ l) (plain ∙ ap (map text) (under_none (line_pieces (bare_bytes Plain bs))))
        ∙ ap (λ (l : List ℕ). text l ∷ map text (line_pieces (bare_bytes Plain bs))) (sym (append-nil xs)))
    by false is true other plain command one = subst At (sym (eqb-true b 255 other)) command
    by false is false other plain command one = subst No255 (sym other) (subst No10 (sym is) (
        ap (λ (l : List ℕ). cut_lines (record { mode = Plain; line = l }) bs) (text_snoc xs b)
        ∙ one
        ∙ ap (map text) (sym (under_onto xs b (line_pieces (bare_bytes Plain bs))))))

pub cut_is_lines : (bs : List ℕ) → cut_lines fresh bs ≡ lines bs
unfolding lines
cut_is_lines bs =
    ap (λ (l : List ℕ). cut_lines (record { mode = Plain; line = l }) bs) (sym text_none) ∙ cut_from bs Plain [] ∙ ap (map text) (under_none (line_pieces (bare_bytes Plain bs)))
