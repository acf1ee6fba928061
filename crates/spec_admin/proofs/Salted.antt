-- The player that is made has its password, and where none is made nothing is drawn.
use Rattle.std.proofs.Common.{◌≡◌, ◌⊎◌, ℕ, zero, suc, true, cond, List, ◌++◌, take, refl, ◌∙◌, ap, Option, Some, None, inl, inr, Result, Ok, Err, arith}
use Rattle.std.specs.Option.{option_map, option_and_then, option_map_or}
use Rattle.std.specs.Int.{bytes_high_first}
use Rattle.std.proofs.lemmas.Slice.Eq.{bytes_eq-Decides}
use Rattle.muck_laws.proofs.Texts.{byte_small}
use Rattle.hex.specs.Hex.{IsBytes, encode_with, encode_lower, decode_of}
use Rattle.hex.proofs.HexLemmas.{decode_of-encode_lower}
use Rattle.muck_model.specs.declared.dbref.Dbref.{Dbref}
use Rattle.muck_model.specs.declared.dbref.Denial.{Denial}
use Rattle.muck_model.specs.declared.dbref.Kind.TheVariants.{Player}
use Rattle.spec_live.specs.declared.fault.DbFault.{DbFault}
use Rattle.spec_live.specs.declared.object.Object.{Object}
use Rattle.spec_live.specs.Password.{digest_of, salt_bytes, is_salted, is_digest_of}
use Rattle.spec_live.specs.Objects.{Entry, dbref_of, is_garbage, object_in, number_in, object_at, changed_at, with_object}
use Rattle.spec_live.specs.Moving.{with_place}
use Rattle.spec_live.specs.Making.{objects_grown, new_object, created, create_check}
use Rattle.spec_live.specs.Setting.{set_at, with_password}
use Rattle.spec_live.specs.Boards.{told_one, random_drawn}
use Rattle.spec_live.specs.Lives.{Live, Change, ◌▸◌, change_followed, reading, tell, draw, random_word}
use Rattle.spec_live.proofs.Keeping.{Keeps, keeps_either, keeps_where}
use Rattle.spec_live.proofs.Readers.{object_named, object_moved, object_changed, kind_is}
use Rattle.spec_live.proofs.CreationLaws.{may_create, grown_long}
use Rattle.spec_rights.specs.declared.act.Actor.{Actor}
use Rattle.spec_rights.specs.Asking.{refused}
use Rattle.spec_rights.specs.Changing.{at_number, created_so, password_kept}
use Rattle.spec_rights.proofs.Lookups.{alive, seen_at}
use Rattle.spec_rights.proofs.Licences.{keeps_asked}
use Rattle.spec_commands.specs.Replies.{cant_be_done}
use Rattle.spec_commands.specs.Building.{made_at, created_shown}
use Rattle.spec_admin.specs.Players.{salt_of, password_drawn, player_put, player_made}

-- A digest is the one of its word.

high_bytes : (k n : ℕ) → IsBytes (bytes_high_first k n)
high_bytes zero n i = omega arith
high_bytes (suc k) n zero = byte_small k n
high_bytes (suc k) n (suc i) = high_bytes k n i

-- the salt stands before all else
salt_first : (salt : ℕ) (more : List ℕ) → take 16 (encode_lower (salt_bytes salt ++ more)) ≡ encode_lower (salt_bytes salt)
unfolding encode_with
salt_first salt more = refl

salt_decoded : (salt : ℕ) (word : List ℕ) → decode_of (take 16 (digest_of (salt_bytes salt) word)) ≡ Ok (salt_bytes salt)
unfolding digest_of
salt_decoded salt word = ap (λ (t : List ℕ). decode_of t) (salt_first salt _) ∙ decode_of-encode_lower (salt_bytes salt) (high_bytes 8 salt)

pub digest_known : (salt : ℕ) (word : List ℕ) → is_digest_of word (digest_of (salt_bytes salt) word) ≡ true
unfolding is_digest_of
digest_known salt word =
    ap (λ r. is_salted word (digest_of (salt_bytes salt) word) r) (salt_decoded salt word) ∙ (bytes_eq-Decides (digest_of (salt_bytes salt) word) (digest_of (salt_bytes salt) word)).1 refl

-- What stands where a player is made, and gets a password.

made_there : (name : List ℕ) (owner place : Dbref) (es : List Entry) (p : ℕ × ℕ) → create_check Player owner place es ≡ Ok p →
    object_in (created p.0 Player name owner p.1 es) p.0 ≡ Some (with_place p.1 (new_object p.0 Player name owner))
unfolding created
made_there name owner place es p e =
    let n : ℕ = p.0 in
    let o : Object = new_object n Player name owner in
    object_moved (changed_at n (with_object o) (objects_grown n es)) n p.1
    ∙ ap (λ q. option_map (with_place p.1) q) (object_named n o (objects_grown n es) (grown_long es n (may_create Player owner place es p e).free).0)

-- an object that is there and isn't garbage has its number
number_there : (es : List Entry) (n : ℕ) (o : Object) → object_in es n ≡ Some o → o.kind ≡ Player → number_in es (dbref_of n) ≡ Some n
unfolding number_in
number_there es n o e k = ap (λ kind. cond (is_garbage kind) None (Some n)) (kind_is es n o e ∙ k)

worded_there : (es : List Entry) (n : ℕ) (o : Object) (salt : ℕ) (word : List ℕ) → object_in es n ≡ Some o → o.kind ≡ Player → object_at (dbref_of n) (at_number (set_at (with_password salt word)) (dbref_of n) es) ≡ Some (with_password salt word o)
worded_there es n o salt word e k =
    seen_at (at_number (set_at (with_password salt word)) (dbref_of n) es) n
    ∙ ap (λ m. option_and_then alive (object_in (option_map_or (λ m. set_at (with_password salt word) m es) m es) n)) (number_there es n o e k)
    ∙ ap (λ q. option_and_then alive q) (object_changed n (with_password salt word) es ∙ ap (λ q. option_map (with_password salt word) q) e)
    ∙ ap (λ kind. cond (is_garbage kind) None (Some (with_password salt word o))) k

-- at this number is a player of that name, and the password is its own
pub record HasWord (n : ℕ) (title word : List ℕ) (v : Live) : Type 0 where
  pub player : Object
  pub there : object_at (dbref_of n) v.objects ≡ Some player
  pub kind : player.kind ≡ Player
  pub name : player.name ≡ title
  pub digest : is_digest_of word player.digest ≡ true

-- nothing is made, and no random number is drawn
pub record Undrawn (w v : Live) : Type 0 where
  pub objects : v.objects ≡ w.objects
  pub random : v.board.random ≡ w.board.random

-- either a player is made, with its password, or nothing is
abbrev pub Salts : List ℕ → List ℕ → Live → Live → Type 0
Salts name word w v = ((n : ℕ) × HasWord n name word v) ⊎ Undrawn w v

salts_told : (name word : List ℕ) (d : ℕ) (text : List ℕ) → Keeps (Salts name word) (tell d text)
unfolding tell told_one
salts_told name word d text = record { law = λ w. inr (record { objects = refl; random = refl }) }

salts_refused : (name word : List ℕ) (d : ℕ) (denial : Denial) → Keeps (Salts name word) (refused d denial)
unfolding refused
salts_refused name word d denial = salts_told name word d _

abbrev Put : ℕ → Actor → List ℕ → List ℕ → ℕ → ℕ → Change
Put d a name word n to = created_so n Player name a.user to (λ o. o) ▸ password_drawn (dbref_of n) word ▸ created_shown d n

put_worded : (d : ℕ) (a : Actor) (name word : List ℕ) (w : Live) (p : ℕ × ℕ) → create_check Player a.user (dbref_of 0) w.objects ≡ Ok p → HasWord p.0 name word (Put d a name word p.0 p.1 w)
unfolding change_followed reading created_so password_drawn password_kept created_shown draw random_drawn tell told_one new_object
put_worded d a name word w p e =
    let es : List Entry = created p.0 Player name a.user p.1 w.objects in
    let o : Object = with_place p.1 (new_object p.0 Player name a.user) in
    let is : object_in (set_at (λ (x : Object). x) p.0 es) p.0 ≡ Some o = object_changed p.0 (λ x. x) es ∙ ap (λ (q : Option Object). option_map (λ (x : Object). x) q) (made_there name a.user (dbref_of 0) w.objects p e) in
    let salt : ℕ = salt_of (random_word w) (random_word (draw w)) in
    record {
      player = with_password salt word o;
      there = worded_there (set_at (λ x. x) p.0 es) p.0 o salt word is refl;
      kind = refl;
      name = refl;
      digest = digest_known salt word;
    }

salts_put : (d : ℕ) (a : Actor) (name word : List ℕ) → Keeps (Salts name word) (player_put d a name word)
unfolding player_put reading
salts_put d a name word = record { law = λ w. at w (create_check Player a.user (dbref_of 0) w.objects) refl }
  where
    at : (w : Live) (check : Result (ℕ × ℕ) DbFault) → create_check Player a.user (dbref_of 0) w.objects ≡ check → Salts name word w (made_at check (Put d a name word) (tell d cant_be_done) w)
    at w (Ok p) e = inl (p.0, put_worded d a name word w p e)
    at w (Err fault) e = (salts_told name word d cant_be_done).law w

-- `@pcreate` makes a player that has that password, or makes nothing and draws no random number
pub player_salted : (d : ℕ) (a : Actor) (name word : List ℕ) → Keeps (Salts name word) (player_made d a name word)
unfolding player_made
player_salted d a name word =
    keeps_where _ _ _ (salts_told name word d _)
    (keeps_either _ _ _ (keeps_asked a _ _ _ (salts_refused name word d) (salts_put d a name word)) (salts_told name word d _))
