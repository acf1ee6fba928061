-- What is stored of objects that aren't due, and of a world in which only the change marks differ.
use Rattle.std.proofs.Common.{◌≡◌, ℕ, suc, List, [], ◌∷◌, Option, Some, None, refl, sym, ◌∙◌, ap, map, true, false}
use Rattle.std.specs.List.{slice_get}
use Rattle.std.specs.Option.{option_map}
use Rattle.spec_live.specs.declared.object.Object.{Object}
use Rattle.spec_live.specs.declared.saving.Saving.{Saving}
use Rattle.spec_live.specs.Objects.{Entry, dbref_of, object_in, list_in}
use Rattle.spec_live.specs.Saving.{Links, links_in, on_saving, all_saving, IsAsBefore, Marked}
use Rattle.spec_live.proofs.Dues.{links_resaved}
use Rattle.muck_codec.specs.declared.stored.Stored.{Stored}
use Rattle.muck_store.specs.Forms.{properties_of, link_to_number, first_in_list, next_in, stored_of, stored_from, persist}
use Rattle.muck_store.specs.inner.Changes.{KeepsUndue}
use Rattle.muck_store.proofs.StoredForms.{first_of_list, get_persist, list_there}

-- The stored form of an object is made of its fields and its links.

abbrev linked : ℕ → Links → Object → Stored
linked k l o = record {
  dbref = dbref_of k;
  kind = o.kind;
  flags = o.flags;
  level = o.level;
  owner = o.owner;
  place = o.place;
  link = o.link;
  home = o.home;
  first_content = link_to_number l.content;
  first_exit = link_to_number l.exit;
  next = link_to_number l.next;
  name = o.name;
  props = properties_of o.props;
  lines = o.lines;
  digest = o.digest;
}

first_link : (xs : List ℕ) → first_in_list xs ≡ link_to_number (first_of_list xs)
first_link [] = refl
first_link (x ∷ xs) = refl

stored_linked : (es : List Entry) (k : ℕ) (e : Entry) → slice_get es k ≡ Some e → stored_of es k e ≡ linked k (links_in es k) e.object
unfolding stored_of links_in
stored_linked es k e at =
    let make : Option ℕ → Option ℕ → Stored = λ x y. linked k (record { content = x; exit = y; next = next_in es k }) e.object in
    ap (λ d. record (stored_of es k e) { first_content = d }) (first_link e.contents)
    ∙ ap (λ d. record (make (first_of_list e.contents) None) { first_exit = d }) (first_link e.exits)
    ∙ ap (λ xs. make (first_of_list xs) (first_of_list e.exits)) (sym (list_there es false k e at))
    ∙ ap (λ xs. make (first_of_list (list_in false es k)) (first_of_list xs)) (sym (list_there es true k e at))

got_linked : (es : List Entry) (k : ℕ) → slice_get (persist es) k ≡ option_map (linked k (links_in es k)) (object_in es k)
unfolding object_in
got_linked es k = get_persist es k ∙ by_cases (slice_get es k) refl
  where
    by_cases : (o : Option Entry) → slice_get es k ≡ o → option_map (stored_of es k) o ≡ option_map (linked k (links_in es k)) (option_map (λ (e : Entry). e.object) o)
    by_cases None at = refl
    by_cases (Some e) at = ap Some (stored_linked es k e at)

-- What isn't due.

pub stored_as_before : (es fs : List Entry) (k : ℕ) → IsAsBefore es fs k → slice_get (persist fs) k ≡ slice_get (persist es) k
stored_as_before es fs k same =
    got_linked fs k
    ∙ ap (λ l. option_map (linked k l) (object_in fs k)) same.links
    ∙ ap (λ o. option_map (linked k (links_in es k)) o) same.object
    ∙ sym (got_linked es k)

pub undue_kept : (base : List Stored) (es fs : List Entry) → KeepsUndue base es → Marked es fs → KeepsUndue base fs
undue_kept base es fs kept marked k undue = let same : IsAsBefore es fs k = marked k undue in kept k same.early ∙ sym (stored_as_before es fs k same)

-- Change marks alone differ.

next_resaved : (f : Saving → Saving) (es : List Entry) (k : ℕ) → next_in (all_saving f es) k ≡ next_in es k
unfolding links_in
next_resaved f es k = ap (λ l. l.next) (links_resaved f k es)

from_resaved : (f : Saving → Saving) (es : List Entry) (k : ℕ) (rest : List Entry) → stored_from (all_saving f es) k (map (on_saving f) rest) ≡ stored_from es k rest
unfolding stored_from stored_of
from_resaved f es k [] = refl
from_resaved f es k (e ∷ rest) =
    ap (λ n. record (stored_of es k e) { next = link_to_number n } ∷ stored_from (all_saving f es) (suc k) (map (on_saving f) rest)) (next_resaved f es k)
    ∙ ap (λ l. stored_of es k e ∷ l) (from_resaved f es (suc k) rest)

pub persist_resaved : (f : Saving → Saving) (es : List Entry) → persist (all_saving f es) ≡ persist es
unfolding persist all_saving
persist_resaved f es = from_resaved f es 0 es
