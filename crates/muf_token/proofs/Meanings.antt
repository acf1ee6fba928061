-- What definitions mean: a name has the body that a look-up finds, whatever the order of the names.
use Rattle.std.proofs.Common.{◌≡◌, ℕ, Bool, true, false, cond, List, [], ◌∷◌, Some, None, refl, ap, sym, ◌∙◌}
use Rattle.std.specs.Str.{bytes_eq}
use Rattle.std.specs.List.{IsDistinct, AllByRecursion}
use Rattle.std.specs.Map.{lookup, keys_of, remove_entry}
use Rattle.std.proofs.lemmas.Map.{lookup-remove_entry}
use Rattle.muck_laws.proofs.Texts.{bytes_equivalence}
use Rattle.indexmap.specs.IndexMap.{insert_entry}
use Rattle.muf_token.specs.declared.includes.Definition.{Definition}
use Rattle.muf_token.specs.declared.piece.Piece.{Piece}
use Rattle.muf_token.specs.Pieces.{lowered, source_pieces}
use Rattle.muf_token.specs.Expansion.{Definitions}
use Rattle.muf_token.specs.Source.{with_all}

module _ {X : Type 0} where
  -- a name that is defined has the new body; any other has what it had
  pub lookup_inserted : (es : List (List ℕ × X)) (name : List ℕ) (body : X) (q : List ℕ) → lookup (bytes_eq q) (insert_entry bytes_eq es name body) ≡ cond (bytes_eq name q) (Some body) (lookup (bytes_eq q) es)
  lookup_inserted [] name body q = ap (λ b. cond b (Some body) None) (bytes_equivalence.symm q name)
  lookup_inserted (e ∷ es) name body q = by (bytes_eq name e.0) refl (lookup_inserted es name body q)
    where
      here : bytes_eq name e.0 ≡ true → (b : Bool) → bytes_eq name q ≡ b → cond b (Some body) (lookup (bytes_eq q) es) ≡ cond b (Some body) (cond b (Some e.1) (lookup (bytes_eq q) es))
      here same true h = refl
      here same false h = refl

      later : (b c : Bool) → (b ≡ true → c ≡ true → ⊥) → cond c (Some e.1) (cond b (Some body) (lookup (bytes_eq q) es)) ≡ cond b (Some body) (cond c (Some e.1) (lookup (bytes_eq q) es))
      later true true h = absurd (h refl refl)
      later true false h = refl
      later false c h = refl

      apart : bytes_eq name e.0 ≡ false → bytes_eq name q ≡ true → bytes_eq q e.0 ≡ true → ⊥
      apart other h k = let both : true ≡ false = sym k ∙ sym (bytes_equivalence.congr name q e.0 h) ∙ other in cc

      by : (b : Bool) → bytes_eq name e.0 ≡ b → lookup (bytes_eq q) (insert_entry bytes_eq es name body) ≡ cond (bytes_eq name q) (Some body) (lookup (bytes_eq q) es)
          → lookup (bytes_eq q) (cond b ((e.0, body) ∷ es) (e ∷ insert_entry bytes_eq es name body)) ≡ cond (bytes_eq name q) (Some body) (cond (bytes_eq q e.0) (Some e.1) (lookup (bytes_eq q) es))
      by true same rest =
          let at : bytes_eq q e.0 ≡ bytes_eq name q = bytes_equivalence.symm q e.0 ∙ sym (bytes_equivalence.congr name e.0 q same) in
          rw at (here same (bytes_eq name q) refl)
      by false other rest =
          ap (λ o. cond (bytes_eq q e.0) (Some e.1) o) rest
          ∙ later (bytes_eq name q) (bytes_eq q e.0) (apart other)

  all_inserted : (P : List ℕ → Type 0) (es : List (List ℕ × X)) (name : List ℕ) (body : X) → AllByRecursion P (keys_of es) → P name → AllByRecursion P (keys_of (insert_entry bytes_eq es name body))
  all_inserted P [] name body all p = (p, tt)
  all_inserted P (e ∷ es) name body all p = by (bytes_eq name e.0) (all_inserted P es name body all.1 p)
    where
      by : (b : Bool) → AllByRecursion P (keys_of (insert_entry bytes_eq es name body)) → AllByRecursion P (keys_of (cond b ((e.0, body) ∷ es) (e ∷ insert_entry bytes_eq es name body)))
      by true rest = all
      by false rest = (all.0, rest)

  pub distinct_inserted : (es : List (List ℕ × X)) (name : List ℕ) (body : X) → IsDistinct bytes_eq (keys_of es) → IsDistinct bytes_eq (keys_of (insert_entry bytes_eq es name body))
  unfolding IsDistinct
  distinct_inserted [] name body d = (tt, tt)
  distinct_inserted (e ∷ es) name body d = by (bytes_eq name e.0) refl (distinct_inserted es name body d.1)
    where
      by : (b : Bool) → bytes_eq name e.0 ≡ b → IsDistinct bytes_eq (keys_of (insert_entry bytes_eq es name body)) → IsDistinct bytes_eq (keys_of (cond b ((e.0, body) ∷ es) (e ∷ insert_entry bytes_eq es name body)))
      by true h rest = d
      by false h rest = (all_inserted (λ y. bytes_eq e.0 y ≡ false) es name body d.0 (bytes_equivalence.symm e.0 name ∙ h), rest)

  all_removed : (P : List ℕ → Type 0) (es : List (List ℕ × X)) (test : List ℕ → Bool) → AllByRecursion P (keys_of es) → AllByRecursion P (keys_of (remove_entry test es))
  all_removed P [] test all = tt
  all_removed P (e ∷ es) test all = by (test e.0) (all_removed P es test all.1)
    where
      by : (b : Bool) → AllByRecursion P (keys_of (remove_entry test es)) → AllByRecursion P (keys_of (cond b es (e ∷ remove_entry test es)))
      by true rest = all.1
      by false rest = (all.0, rest)

  pub distinct_removed : (es : List (List ℕ × X)) (test : List ℕ → Bool) → IsDistinct bytes_eq (keys_of es) → IsDistinct bytes_eq (keys_of (remove_entry test es))
  unfolding IsDistinct
  distinct_removed [] test d = tt
  distinct_removed (e ∷ es) test d = by (test e.0) (distinct_removed es test d.1)
    where
      by : (b : Bool) → IsDistinct bytes_eq (keys_of (remove_entry test es)) → IsDistinct bytes_eq (keys_of (cond b es (e ∷ remove_entry test es)))
      by true rest = d.1
      by false rest = (all_removed (λ y. bytes_eq e.0 y ≡ false) es test d.0, rest)

  pub lookup_removed : (es : List (List ℕ × X)) (name q : List ℕ) → IsDistinct bytes_eq (keys_of es) → lookup (bytes_eq q) (remove_entry (bytes_eq name) es) ≡ cond (bytes_eq name q) None (lookup (bytes_eq q) es)
  lookup_removed es name q d = lookup-remove_entry bytes_equivalence (bytes_eq name) (λ x y h. bytes_equivalence.congr name x y h) q es d

-- each name stands for the same
abbrev pub MeanSame : Definitions → Definitions → Type 0
MeanSame a b = (q : List ℕ) → lookup (bytes_eq q) a ≡ lookup (bytes_eq q) b

-- the same, and no name stands twice
pub record AreSame (a b : Definitions) : Type 0 where
  pub mean : MeanSame a b
  pub one : IsDistinct bytes_eq (keys_of a)
  pub other : IsDistinct bytes_eq (keys_of b)

pub same_defined : (a b : Definitions) (name : List ℕ) (body : List Piece) → AreSame a b → AreSame (insert_entry bytes_eq a name body) (insert_entry bytes_eq b name body)
same_defined a b name body h = record {
  mean = λ q. lookup_inserted a name body q ∙ ap (λ o. cond (bytes_eq name q) (Some body) o) (h.mean q) ∙ sym (lookup_inserted b name body q);
  one = distinct_inserted a name body h.one;
  other = distinct_inserted b name body h.other;
}

pub same_removed : (a b : Definitions) (name : List ℕ) → AreSame a b → AreSame (remove_entry (bytes_eq name) a) (remove_entry (bytes_eq name) b)
same_removed a b name h = record {
  mean = λ q. lookup_removed a name q h.one ∙ ap (λ o. cond (bytes_eq name q) None o) (h.mean q) ∙ sym (lookup_removed b name q h.other);
  one = distinct_removed a (bytes_eq name) h.one;
  other = distinct_removed b (bytes_eq name) h.other;
}

pub same_with_all : (list : List Definition) (a b : Definitions) → AreSame a b → AreSame (with_all list a) (with_all list b)
same_with_all [] a b h = h
same_with_all (d ∷ list) a b h = same_with_all list _ _ (same_defined a b (lowered d.name) (source_pieces d.text) h)
