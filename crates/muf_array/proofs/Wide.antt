-- Lists and dictionaries of more entries than a stack has room for.
use Rattle.std.proofs.Common.{◌≡◌, ℕ, ◌+◌, ◌<◌, ◌≤◌, List, [], ◌∷◌, length, map, drop, reverse, inl, inr, arith, length-append}
use Rattle.std.specs.Prelude.{pos}
use Rattle.std.proofs.lemmas.List.{length-map, length-drop, length-reverse}
use Rattle.muf_model.specs.declared.fault.MufFault.TheVariants.{StackFull}
use Rattle.muf_model.specs.declared.prims.Primitive.{Primitive}
use Rattle.muf_model.specs.declared.value.MapKey.{MapKey}
use Rattle.muf_model.specs.declared.value.Value.{Value}
use Rattle.muf_model.specs.inner.View.{view}
use Rattle.muf_model.specs.Datum.{Datum, int, text, object, variable, address, lock, items, dict, mark}
use Rattle.muf_model.specs.Entries.{key_datum}
use Rattle.muf_model.specs.Answer.{Made, items_put, refuses}
use Rattle.muf_model.specs.ArrayRows.{entries_in, counted_values, spread, keys, values, exploded}
use Rattle.muf_array.specs.inner.Shapes.{Spreads, of_held, row_of_held}
use Rattle.prim_text.proofs.Making.{put_full}

-- a stack that has room for one item more than the rest, and none for so many
abbrev IsFull : ℕ → List Datum → Type 0
IsFull n rest = (1 + length rest ≤ 1024) × (1024 < 1 + n + length rest)

wide_values : (ds rest : List Datum) → IsFull (length ds) rest → items_put 1 (counted_values ds) rest ≡ refuses StackFull
wide_values ds rest h = put_full 1 (int (pos (length ds)) ∷ reverse ds) rest h.0 (omega (arith, h.1, length-reverse ds))

spread_length : (es : List (MapKey × Datum)) → length es ≤ length (spread es)
spread_length [] = omega arith
spread_length ((k, x) ∷ es) = omega (arith, spread_length es, length-append (spread es) (x ∷ key_datum k ∷ []))

wide_held : (f : Datum → Made) (a : Datum) (rest : List Datum) → IsFull (length (entries_in a)) rest → (IsFull (length (entries_in a)) rest → items_put 1 (f a) rest ≡ refuses StackFull) → items_put 1 (of_held f a) rest ≡ refuses StackFull
wide_held f (items ds) rest h g = g h
wide_held f (dict ps) rest h g = g h
wide_held f (int n) rest h g = absurd (omega (arith, h.0, h.1))
wide_held f (text t) rest h g = absurd (omega (arith, h.0, h.1))
wide_held f (object d) rest h g = absurd (omega (arith, h.0, h.1))
wide_held f (variable v) rest h g = absurd (omega (arith, h.0, h.1))
wide_held f (address p w) rest h g = absurd (omega (arith, h.0, h.1))
wide_held f (lock l) rest h g = absurd (omega (arith, h.0, h.1))
wide_held f mark rest h g = absurd (omega (arith, h.0, h.1))

wide_keys : (a : Datum) (rest : List Datum) → IsFull (length (entries_in a)) rest → items_put 1 (of_held keys a) rest ≡ refuses StackFull
wide_keys a rest h =
    wide_held keys a rest h (λ g. wide_values (map (λ e. key_datum e.0) (entries_in a)) rest (g.0, omega (arith, g.1, length-map (entries_in a) (λ e. key_datum e.0))))

wide_vals : (a : Datum) (rest : List Datum) → IsFull (length (entries_in a)) rest → items_put 1 (of_held values a) rest ≡ refuses StackFull
wide_vals a rest h =
    wide_held values a rest h (λ g. wide_values (map (λ e. e.1) (entries_in a)) rest (g.0, omega (arith, g.1, length-map (entries_in a) (λ e. e.1))))

wide_exploded : (a : Datum) (rest : List Datum) → IsFull (length (entries_in a)) rest → items_put 1 (of_held exploded a) rest ≡ refuses StackFull
wide_exploded a rest h =
    wide_held exploded a rest h (λ g. put_full 1 (int (pos (length (entries_in a))) ∷ spread (entries_in a)) rest g.0 (omega (arith, g.1, spread_length (entries_in a))))

wide_row : (p : Primitive) (a : Datum) (rest : List Datum) → Spreads p → IsFull (length (entries_in a)) rest → items_put 1 (of_held (row_of_held p) a) rest ≡ refuses StackFull
unfolding row_of_held
wide_row p a rest (inl e) h = rw e (wide_keys a rest h)
wide_row p a rest (inr (inl e)) h = rw e (wide_vals a rest h)
wide_row p a rest (inr (inr e)) h = rw e (wide_exploded a rest h)

-- the entries would stand where the top of the stack is, which has no room for them
pub wide : (p : Primitive) (a : Datum) (vs : List Value) → Spreads p → 1 ≤ length vs → length vs ≤ 1024 → 1024 < length (entries_in a) + length vs → items_put 1 (of_held (row_of_held p) a) (drop 1 (map view vs)) ≡ refuses StackFull
wide p a vs s some most over =
    wide_row p a (drop 1 (map view vs)) s (omega (arith, some, most, length-drop 1 (map view vs), length-map vs view), omega (arith, some, over, length-drop 1 (map view vs), length-map vs view))
