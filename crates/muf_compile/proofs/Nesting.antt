-- What is written by the rules of the grammar is nested.
use Rattle.std.proofs.Common.{◌≡◌, ℕ, zero, suc, List, [], ◌∷◌, ◌++◌, length, Bool, true, false, refl, subst}
use Rattle.std.specs.Prelude.{Some, slice_get}
use Rattle.muf_model.specs.declared.code.Offer.{Offer}
use Rattle.muf_model.specs.declared.code.Word.{Word}
use Rattle.muf_model.specs.Tree.{Block, Definition}
use Rattle.muf_model.specs.inner.Nesting.{Place, outside, inside, behind, IsFree, MayStand, NestedBlock, NestedWords}
use Rattle.muf_token.specs.declared.token.Token.{Token}
use Rattle.muf_token.specs.declared.token.TokenKind.{TokenKind}
use Rattle.muf_compile.specs.declared.act.Act.{Act}
use Rattle.muf_compile.specs.declared.act.Act.TheVariants.{Item, Jump}
use Rattle.muf_compile.specs.declared.act.Reading.{Reading}
use Rattle.muf_compile.specs.Growth.{offered_in}
use Rattle.muf_compile.specs.inner.Spells.{Spells, nothing, item, jump, if_then, if_else, try_catch, begin_repeat, begin_until, for_repeat, each_repeat}
use Rattle.muf_compile.specs.inner.Grammar.{Scope, Names, of_word, structure, Says, structural, named, bindings, Header, bare, with_arguments, with_results, Opened, begun, says, own_variable, stored_variable, Declares, nothing_declared, shared_variable, local_variable, offered_to_all, offered_to_wizards, word_defined}

-- what is said stands anywhere in a word, or in loops
abbrev IsPlain : Act → Type 0
IsPlain (Item w) = (p : Place) → IsFree p → MayStand p w
IsPlain (Jump w) = MayStand inside w
IsPlain _ = Unit {0}

abbrev AllPlain : List Reading → Type 0
AllPlain [] = Unit {0}
AllPlain (r ∷ rs) = IsPlain r.act × AllPlain rs

both_plain : (xs ys : List Reading) → AllPlain xs → AllPlain ys → AllPlain (xs ++ ys)
both_plain [] ys h k = k
both_plain (x ∷ xs) ys h k = (h.0, both_plain xs ys h.1 k)

front_plain : (xs ys : List Reading) → AllPlain (xs ++ ys) → AllPlain xs
front_plain [] ys h = tt
front_plain (x ∷ xs) ys h = (h.0, front_plain xs ys h.1)

rest_plain : (xs ys : List Reading) → AllPlain (xs ++ ys) → AllPlain ys
rest_plain [] ys h = h
rest_plain (x ∷ xs) ys h = rest_plain xs ys h.1

name_plain : {s : Scope} {name : List ℕ} {w : Word} → Names s name w → IsPlain (Item w)
name_plain (of_word n i) = λ p f. f
name_plain _ = λ p f. f

abbrev RowsPlain : List (List ℕ × Act) → Type 0
RowsPlain [] = Unit {0}
RowsPlain (r ∷ rs) = IsPlain r.1 × RowsPlain rs

row_plain : (rows : List (List ℕ × Act)) → RowsPlain rows → (n : ℕ) (name : List ℕ) (a : Act) → slice_get rows n ≡ Some (name, a) → IsPlain a
row_plain [] h n name a e = cc
row_plain (r ∷ rs) h zero name a e = let i : r.1 ≡ a = cc in subst IsPlain i h.0
row_plain (r ∷ rs) h (suc n) name a e = row_plain rs h.1 n name a e

structure_plain : RowsPlain structure
structure_plain = (tt, (tt, (tt, (tt, (tt, (tt, (tt, (tt, (tt, (tt, (tt, (refl, (refl, (refl, ((λ p f. f), tt)))))))))))))))

said_plain : {s : Scope} {kind : TokenKind} {a : Act} → Says s kind a → IsPlain a
said_plain (structural row e) = row_plain structure structure_plain row _ _ e
said_plain (named n u) = name_plain n
said_plain _ = λ p f. f

bound_plain : (line n : ℕ) → AllPlain (bindings line n)
bound_plain line zero = tt
bound_plain line (suc n) = ((λ p f. f), tt)

header_plain : {ws vs : List (List ℕ)} {name : List ℕ} {ts : List Token} {ls : List (List ℕ)} {rs : List Reading} → Header ws vs name ts ls rs → AllPlain rs
header_plain (bare first line n) = tt
header_plain (with_arguments first line last {names = ls} h) = bound_plain first (length ls)
header_plain (with_results first line mid last {names = ls} h p) = bound_plain first (length ls)

opened_plain : {ws vs : List (List ℕ)} {name : List ℕ} {ts : List Token} {ls : List (List ℕ)} {rs : List Reading} → Opened ws vs name ts ls rs → AllPlain rs
opened_plain (begun h) = header_plain h
opened_plain (says {rs} line o s) = both_plain rs _ (opened_plain o) (said_plain s, tt)
opened_plain (own_variable first line o f) = opened_plain o
opened_plain (stored_variable {rs} first line o f) = both_plain rs _ (opened_plain o) ((λ p f. f), tt)

-- in a loop or in none
abbrev place_of : Bool → Place
place_of true = inside
place_of false = outside

is_free : (l : Bool) → IsFree (place_of l)
is_free true = tt
is_free false = tt

stays : (l : Bool) → behind (place_of l) ≡ place_of l
stays true = refl
stays false = refl

spelled_nested : (l : Bool) (b : Block) (rs : List Reading) → Spells l b rs → AllPlain rs → NestedBlock (place_of l) b
spelled_nested l b rs nothing h = is_free l
spelled_nested l b rs (item s) h = (h.0 (place_of l) (is_free l), rw (stays l) (spelled_nested l _ _ s h.1))
spelled_nested l b rs (jump s) h = (h.0, spelled_nested true _ _ s h.1)
spelled_nested l b rs (if_then last xs s n) h =
    let k = rest_plain xs _ h.1 in
    (is_free l, spelled_nested l _ xs s (front_plain xs _ h.1), spelled_nested l _ _ n k.1)
spelled_nested l b rs (if_else last xs ys s t n) h =
    let k = rest_plain xs _ h.1 in
    let m = rest_plain ys _ k.1 in
    (is_free l, spelled_nested l _ xs s (front_plain xs _ h.1), spelled_nested l _ ys t (front_plain ys _ k.1), spelled_nested l _ _ n m.1)
spelled_nested l b rs (try_catch last xs ys s t n) h =
    let k = rest_plain xs _ h.1 in
    let m = rest_plain ys _ k.1 in
    (is_free l, spelled_nested l _ xs s (front_plain xs _ h.1), spelled_nested l _ ys t (front_plain ys _ k.1), spelled_nested l _ _ n m.1)
spelled_nested l b rs (begin_repeat xs s n) h =
    let k = rest_plain xs _ h.1 in
    (is_free l, tt, spelled_nested true _ xs s (front_plain xs _ h.1), spelled_nested l _ _ n k.1)
spelled_nested l b rs (begin_until xs s n) h =
    let k = rest_plain xs _ h.1 in
    (is_free l, tt, spelled_nested true _ xs s (front_plain xs _ h.1), spelled_nested l _ _ n k.1)
spelled_nested l b rs (for_repeat xs s n) h =
    let k = rest_plain xs _ h.1 in
    (is_free l, tt, (refl, spelled_nested true _ xs s (front_plain xs _ h.1)), spelled_nested l _ _ n k.1)
spelled_nested l b rs (each_repeat xs s n) h =
    let k = rest_plain xs _ h.1 in
    (is_free l, tt, (refl, spelled_nested true _ xs s (front_plain xs _ h.1)), spelled_nested l _ _ n k.1)

one_nested : (ds : List Definition) (d : Definition) → NestedWords ds → NestedBlock outside d.body → NestedWords (ds ++ d ∷ [])
one_nested [] d h k = (k, tt)
one_nested (x ∷ ds) d h k = (h.0, one_nested ds d h.1 k)

offered_nested : (n : ℕ) (o : Offer) (ds : List Definition) → NestedWords ds → NestedWords (offered_in n o ds)
offered_nested n o [] h = tt
offered_nested zero o (d ∷ ds) h = h
offered_nested (suc n) o (d ∷ ds) h = (h.0, offered_nested n o ds h.1)

-- the words of a program that is written by the rules
pub declared_nested : {ts : List Token} {ds : List Definition} {vs : List (List ℕ)} → Declares ts ds vs → NestedWords ds
declared_nested nothing_declared = tt
declared_nested (shared_variable first line d f) = declared_nested d
declared_nested (local_variable first line d f) = declared_nested d
declared_nested (offered_to_all {ds} first line n d i) = offered_nested n _ ds (declared_nested d)
declared_nested (offered_to_wizards {ds} first line n d i) = offered_nested n _ ds (declared_nested d)
declared_nested (word_defined {ds} last d f o s) = one_nested ds _ (declared_nested d) (spelled_nested false _ _ s (opened_plain o))
