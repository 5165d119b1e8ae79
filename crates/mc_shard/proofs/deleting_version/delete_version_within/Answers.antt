use Rattle.std.proofs.Common.{◌≡◌, ◌∙◌, Err, Some, ap, inl, refl, sym}
use Rattle.mc_words.specs.hand.Arenas.{setup_of, view}
use Rattle.mc_shard.specs.declared.deleting_version.Deletion.TheVariants.{Deleted, Exists, Missing}
use Rattle.mc_shard.specs.Deleting.{deletion_within}
use Rattle.mc_shard.proofs.Slabs.{still_left}
use Rattle.mc_shard.proofs.VersionDeletes.{deleted_so_within, deletes_version_within, finds_no_version_within, finds_other_version_within, is_under, item_leaves_within, misses_version, only_looks, version_first, version_full_within}
use Rattle.mc_shard.proofs.deleting_version.delete_version_within.Goals as goal

pub returns-in-Err-NoMemory-clause-full : goal.returns-in-Err-NoMemory-clause-full
returns-in-Err-NoMemory-clause-full c = λ is. (c.args.hand.now, c.in-Err-NoMemory.ensures.full (ap Err c.in-Err-NoMemory.field-0-is))

pub returns-in-Some-clause-deletes : goal.returns-in-Some-clause-deletes
returns-in-Some-clause-deletes c = λ is.
    let same : c.in-Some.deletion ≡ Deleted = cc in absurd (is_under (setup_of c.args.arena.now) c.args.at.hash c.args.at.key.now c.args.version c.args.hand.now c.in-Ok.seen (Some Deleted) c.in-Ok.ensures.sees (sym c.deletion_at_look.ensures ∙ (c.in-Some.is ∙ ap Some same)))

pub returns-in-Some-clause-exists : goal.returns-in-Some-clause-exists
returns-in-Some-clause-exists c = λ is.
    let same : c.in-Some.deletion ≡ Exists = cc in inl (is_under (setup_of c.args.arena.now) c.args.at.hash c.args.at.key.now c.args.version c.args.hand.now c.in-Ok.seen (Some Exists) c.in-Ok.ensures.sees (sym c.deletion_at_look.ensures ∙ (c.in-Some.is ∙ ap Some same)))

pub returns-in-Some-clause-missing : goal.returns-in-Some-clause-missing
returns-in-Some-clause-missing c = λ is.
    let same : c.in-Some.deletion ≡ Missing = cc in inl (is_under (setup_of c.args.arena.now) c.args.at.hash c.args.at.key.now c.args.version c.args.hand.now c.in-Ok.seen (Some Missing) c.in-Ok.ensures.sees (sym c.deletion_at_look.ensures ∙ (c.in-Some.is ∙ ap Some same)))

pub returns-in-None-clause-deletes : goal.returns-in-None-clause-deletes
returns-in-None-clause-deletes c = λ is.
    let first = version_first (setup_of c.args.arena.now) c.args.at.hash c.args.at.key.now c.args.version c.args.hand.now c.in-Ok.seen c.look_within.new.hand c.in-Ok.ensures.sees (sym c.deletion_at_look.ensures ∙ c.in-None.is)
    (record { calls = c.look_within.ensures.calls; stores_nothing = c.look_within.ensures.stores_nothing; slabs = c.look_within.ensures.slabs; number = c.look_within.ensures.number }) in
    deletes_version_within (setup_of c.args.arena.now) c.args.at.hash c.args.at.key.now c.args.version c.args.hand.now c.look_within.new.hand c.compare_and_delete_within-deleted.new.hand first c.compare_and_delete_within-deleted.result c.compare_and_delete_within-deleted.ensures.deletes (sym c.deletion_within.ensures ∙ is)

pub returns-in-None-clause-exists : goal.returns-in-None-clause-exists
returns-in-None-clause-exists c = λ is.
    let first = version_first (setup_of c.args.arena.now) c.args.at.hash c.args.at.key.now c.args.version c.args.hand.now c.in-Ok.seen c.look_within.new.hand c.in-Ok.ensures.sees (sym c.deletion_at_look.ensures ∙ c.in-None.is)
    (record { calls = c.look_within.ensures.calls; stores_nothing = c.look_within.ensures.stores_nothing; slabs = c.look_within.ensures.slabs; number = c.look_within.ensures.number }) in
    finds_other_version_within (setup_of c.args.arena.now) c.args.at.hash c.args.at.key.now c.args.version c.args.hand.now c.look_within.new.hand c.compare_and_delete_within-deleted.new.hand first c.compare_and_delete_within-deleted.result c.compare_and_delete_within-deleted.ensures.differs (sym c.deletion_within.ensures ∙ is)

pub returns-in-None-clause-missing : goal.returns-in-None-clause-missing
returns-in-None-clause-missing c = λ is.
    let first = version_first (setup_of c.args.arena.now) c.args.at.hash c.args.at.key.now c.args.version c.args.hand.now c.in-Ok.seen c.look_within.new.hand c.in-Ok.ensures.sees (sym c.deletion_at_look.ensures ∙ c.in-None.is)
    (record { calls = c.look_within.ensures.calls; stores_nothing = c.look_within.ensures.stores_nothing; slabs = c.look_within.ensures.slabs; number = c.look_within.ensures.number }) in
    finds_no_version_within (setup_of c.args.arena.now) c.args.at.hash c.args.at.key.now c.args.version c.args.hand.now c.look_within.new.hand c.compare_and_delete_within-deleted.new.hand first c.compare_and_delete_within-deleted.result c.compare_and_delete_within-deleted.ensures.differs (sym c.deletion_within.ensures ∙ is)

pub returns-in-None-clause-held : goal.returns-in-None-clause-held
returns-in-None-clause-held c = λ is.
    let first = version_first (setup_of c.args.arena.now) c.args.at.hash c.args.at.key.now c.args.version c.args.hand.now c.in-Ok.seen c.look_within.new.hand c.in-Ok.ensures.sees (sym c.deletion_at_look.ensures ∙ c.in-None.is)
    (record { calls = c.look_within.ensures.calls; stores_nothing = c.look_within.ensures.stores_nothing; slabs = c.look_within.ensures.slabs; number = c.look_within.ensures.number }) in
    misses_version (setup_of c.args.arena.now) c.args.at.hash c.args.at.key.now c.args.version c.args.hand.now c.look_within.new.hand c.compare_and_delete_within-deleted.new.hand first c.args.tries c.compare_and_delete_within-deleted.result c.compare_and_delete_within-deleted.ensures.held (sym c.deletion_within.ensures ∙ is)

pub returns-in-None-clause-full : goal.returns-in-None-clause-full
returns-in-None-clause-full c = λ is. version_full_within (setup_of c.args.arena.now) c.args.at.hash c.look_within.new.hand c.compare_and_delete_within-deleted.new.hand c.compare_and_delete_within-deleted.result c.compare_and_delete_within-deleted.ensures.no_memory (sym c.deletion_within.ensures ∙ is)

pub returns-in-None-clause-calls : goal.returns-in-None-clause-calls
returns-in-None-clause-calls c = λ is.
    record { between = c.look_within.new.hand; looks = c.look_within.ensures.calls; deletes = deleted_so_within c.compare_and_delete_within-deleted.result c.compare_and_delete_within-deleted.ensures.calls (sym c.deletion_within.ensures ∙ is) }

pub returns-in-None-clause-looks : goal.returns-in-None-clause-looks
returns-in-None-clause-looks c = λ not.
    only_looks (setup_of c.args.arena.now) c.args.at.hash c.args.hand.now c.look_within.new.hand c.compare_and_delete_within-deleted.new.hand c.compare_and_delete_within-deleted.result deletion_within refl c.look_within.ensures.calls c.compare_and_delete_within-deleted.ensures.refused (λ is. not (c.deletion_within.ensures ∙ is))

pub returns-in-None-clause-slabs : goal.returns-in-None-clause-slabs
returns-in-None-clause-slabs c =
    still_left (view c.args.hand.now) (view c.look_within.new.hand) (view c.compare_and_delete_within-deleted.new.hand) c.look_within.ensures.slabs
    (item_leaves_within (setup_of c.args.arena.now) c.args.at.hash c.look_within.new.hand c.compare_and_delete_within-deleted.new.hand c.args.tries c.args.version c.compare_and_delete_within-deleted.result c.compare_and_delete_within-deleted.ensures.deletes c.compare_and_delete_within-deleted.ensures.differs c.compare_and_delete_within-deleted.ensures.no_memory c.compare_and_delete_within-deleted.ensures.held)
