-- The stored form of a consistent world is whole: a dump of it can be read back.
use Rattle.std.proofs.Common.{◌≡◌, List, ◌∙◌, ap, true}
use Rattle.muck_laws.proofs.Truths.{all_three}
use Rattle.spec_live.specs.Objects.{Entry, is_player}
use Rattle.spec_live.specs.Consistent.{IsConsistent}
use Rattle.muck_store.specs.Forms.{persist}
use Rattle.muck_store.specs.Whole.{stored_kind, all_tied, is_tree, is_whole_store}
use Rattle.muck_store.proofs.StoredForms.{kind_persist}
use Rattle.muck_store.proofs.StoredTies.{tied_persist}
use Rattle.muck_store.proofs.StoredTree.{tree_persist}

pub consistent_whole : (es : List Entry) → IsConsistent es → is_whole_store (persist es) ≡ true
unfolding is_whole_store
consistent_whole es c =
    all_three (is_player (stored_kind (persist es) 1)) (all_tied (persist es) 0 (persist es)) (is_tree (persist es)) (ap (λ z. is_player z) (kind_persist es 1 ∙ c.first)) (tied_persist es c) (tree_persist es c)
