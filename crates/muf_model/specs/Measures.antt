-- Truth, weight and nesting of values, and the order of keys.
use Rattle.std.specs.Prelude.{ℕ, zero, suc, ◌+◌, max, List, [], ◌∷◌, Option, Some, None, Bool, true, false, not, nat_lt, int_lt, if◌then◌else◌, pos, negsuc}
use Rattle.std.specs.Ordering.{nat_cmp, is_lt}
use Rattle.std.specs.Cmp.Lexicographic.{slice_cmp}
use Rattle.muck_model.specs.declared.lock.Lock.{Lock}
use Rattle.muck_model.specs.declared.lock.Lock.TheVariants.{Free}
use Rattle.muf_model.specs.declared.value.MapKey.{MapKey}
use Rattle.muf_model.specs.declared.value.MapKey.TheVariants.{Number, Name}
use Rattle.muf_model.specs.Datum.{Datum, int, text, object, variable, address, lock, items, dict, mark, Data, no_data, datum, Pairs, no_pairs, pair}

abbrev pub is_free_lock : Lock → Bool
is_free_lock Free = true
is_free_lock _ = false

-- 0, the empty text, `#-1`, the free lock, the empty list and dictionary and a mark are false, and all else is true
abbrev pub is_true_item : Datum → Bool
is_true_item (int (pos zero)) = false
is_true_item (int (pos (suc n))) = true
is_true_item (int (negsuc n)) = true
is_true_item (text []) = false
is_true_item (text (b ∷ bytes)) = true
is_true_item (object (negsuc zero)) = false
is_true_item (object (negsuc (suc n))) = true
is_true_item (object (pos n)) = true
is_true_item (variable v) = true
is_true_item (address program word) = true
is_true_item (lock l) = not (is_free_lock l)
is_true_item (items no_data) = false
is_true_item (items (datum d ds)) = true
is_true_item (dict no_pairs) = false
is_true_item (dict (pair k d ps)) = true
is_true_item mark = false

abbrev mutual
  -- 1, and for a list or dictionary also the weights of its values
  pub weight : Datum → ℕ
  weight (int n) = 1
  weight (text t) = 1
  weight (object d) = 1
  weight (variable v) = 1
  weight (address program word) = 1
  weight (lock l) = 1
  weight (items ds) = 1 + data_weight ds
  weight (dict ps) = 1 + pairs_weight ps
  weight mark = 1

  pub data_weight : Data → ℕ
  data_weight no_data = 0
  data_weight (datum d ds) = weight d + data_weight ds

  pub pairs_weight : Pairs → ℕ
  pairs_weight no_pairs = 0
  pairs_weight (pair k d ps) = weight d + pairs_weight ps

abbrev mutual
  -- 0, and for a list or dictionary 1 more than the deepest of its values, or 1
  pub nesting : Datum → ℕ
  nesting (int n) = 0
  nesting (text t) = 0
  nesting (object d) = 0
  nesting (variable v) = 0
  nesting (address program word) = 0
  nesting (lock l) = 0
  nesting (items ds) = 1 + data_nesting ds
  nesting (dict ps) = 1 + pairs_nesting ps
  nesting mark = 0

  pub data_nesting : Data → ℕ
  data_nesting no_data = 0
  data_nesting (datum d ds) = max (nesting d) (data_nesting ds)

  pub pairs_nesting : Pairs → ℕ
  pairs_nesting no_pairs = 0
  pairs_nesting (pair k d ps) = max (nesting d) (pairs_nesting ps)

-- a number that is at most so much
abbrev pub within : ℕ → ℕ → Option ℕ
within most n = if nat_lt most n then None else Some n

-- texts by their bytes, a text before those that it begins
abbrev pub text_below : List ℕ → List ℕ → Bool
text_below s t = is_lt (slice_cmp nat_cmp s t)

-- numbers by number, and before names; names by their bytes
abbrev pub key_below : MapKey → MapKey → Bool
key_below (Number m) (Number n) = int_lt m n
key_below (Number m) (Name t) = true
key_below (Name s) (Number n) = false
key_below (Name s) (Name t) = text_below s t
