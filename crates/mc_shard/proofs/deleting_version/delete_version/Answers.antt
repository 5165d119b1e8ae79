use Rattle.std.proofs.Common.{◌≡◌, ◌∙◌, OnErr, Result, Some, ap, inl, refl, subst, sym}
use Rattle.std.specs.Prelude.{⊤}
use Rattle.mc_words.specs.declared.hand.Hand.{Hand}
use Rattle.mc_words.specs.hand.Arenas.{setup_of, view}
use Rattle.mc_shard.specs.declared.deleting_version.Deletion.{Deletion}
use Rattle.mc_shard.specs.declared.deleting_version.Deletion.TheVariants.{Deleted, Exists, Missing}
use Rattle.mc_shard.specs.Deleting.{deletion_of}
use Rattle.mc_shard.specs.Finding.{FindsFull}
use Rattle.mc_shard.proofs.Slabs.{still_left}
use Rattle.mc_shard.proofs.VersionDeletes.{deleted_so, deletes_version, finds_no_version, finds_other_version, is_under, item_leaves, only_looks, version_first, version_full}
use Rattle.mc_shard.proofs.deleting_version.delete_version.Goals as goal

pub returns-in-Some-clause-deletes : goal.returns-in-Some-clause-deletes
returns-in-Some-clause-deletes g c = λ is.
    let same : c.in-Some.deletion ≡ Deleted = cc in absurd (is_under (setup_of c.args.arena.now) c.args.at.hash c.args.at.key.now c.args.version c.args.hand.now c.in-Ok.seen (Some Deleted) c.in-Ok.ensures.sees (sym c.deletion_at_look.ensures ∙ (c.in-Some.is ∙ ap Some same)))

pub returns-in-Some-clause-exists : goal.returns-in-Some-clause-exists
returns-in-Some-clause-exists g c = λ is.
    let same : c.in-Some.deletion ≡ Exists = cc in inl (is_under (setup_of c.args.arena.now) c.args.at.hash c.args.at.key.now c.args.version c.args.hand.now c.in-Ok.seen (Some Exists) c.in-Ok.ensures.sees (sym c.deletion_at_look.ensures ∙ (c.in-Some.is ∙ ap Some same)))

pub returns-in-Some-clause-missing : goal.returns-in-Some-clause-missing
returns-in-Some-clause-missing g c = λ is.
    let same : c.in-Some.deletion ≡ Missing = cc in inl (is_under (setup_of c.args.arena.now) c.args.at.hash c.args.at.key.now c.args.version c.args.hand.now c.in-Ok.seen (Some Missing) c.in-Ok.ensures.sees (sym c.deletion_at_look.ensures ∙ (c.in-Some.is ∙ ap Some same)))

pub returns-in-None-clause-deletes : goal.returns-in-None-clause-deletes
returns-in-None-clause-deletes g c = λ is.
    let first = version_first (setup_of c.args.arena.now) c.args.at.hash c.args.at.key.now c.args.version c.args.hand.now c.in-Ok.seen c.look.new.hand c.in-Ok.ensures.sees (sym c.deletion_at_look.ensures ∙ c.in-None.is)
    (record { calls = c.look.ensures.calls; stores_nothing = c.look.ensures.stores_nothing; slabs = c.look.ensures.slabs; number = c.look.ensures.number }) in
    deletes_version (setup_of c.args.arena.now) c.args.at.hash c.args.at.key.now c.args.version c.args.hand.now c.look.new.hand c.compare_and_delete-deleted.new.hand first c.compare_and_delete-deleted.result c.compare_and_delete-deleted.ensures.deletes (sym c.deletion_of.ensures ∙ is)

pub returns-in-None-clause-exists : goal.returns-in-None-clause-exists
returns-in-None-clause-exists g c = λ is.
    let first = version_first (setup_of c.args.arena.now) c.args.at.hash c.args.at.key.now c.args.version c.args.hand.now c.in-Ok.seen c.look.new.hand c.in-Ok.ensures.sees (sym c.deletion_at_look.ensures ∙ c.in-None.is)
    (record { calls = c.look.ensures.calls; stores_nothing = c.look.ensures.stores_nothing; slabs = c.look.ensures.slabs; number = c.look.ensures.number }) in
    finds_other_version (setup_of c.args.arena.now) c.args.at.hash c.args.at.key.now c.args.version c.args.hand.now c.look.new.hand c.compare_and_delete-deleted.new.hand first c.compare_and_delete-deleted.result c.compare_and_delete-deleted.ensures.differs (sym c.deletion_of.ensures ∙ is)

pub returns-in-None-clause-missing : goal.returns-in-None-clause-missing
returns-in-None-clause-missing g c = λ is.
    let first = version_first (setup_of c.args.arena.now) c.args.at.hash c.args.at.key.now c.args.version c.args.hand.now c.in-Ok.seen c.look.new.hand c.in-Ok.ensures.sees (sym c.deletion_at_look.ensures ∙ c.in-None.is)
    (record { calls = c.look.ensures.calls; stores_nothing = c.look.ensures.stores_nothing; slabs = c.look.ensures.slabs; number = c.look.ensures.number }) in
    finds_no_version (setup_of c.args.arena.now) c.args.at.hash c.args.at.key.now c.args.version c.args.hand.now c.look.new.hand c.compare_and_delete-deleted.new.hand first c.compare_and_delete-deleted.result c.compare_and_delete-deleted.ensures.differs (sym c.deletion_of.ensures ∙ is)

pub returns-in-None-clause-full : goal.returns-in-None-clause-full
returns-in-None-clause-full g c =
    subst (λ (r : Result Deletion ⊤). OnErr r ((x : Hand) × FindsFull (setup_of c.args.arena.now) c.args.at.hash x c.compare_and_delete-deleted.new.hand)) (sym c.deletion_of.ensures) (version_full (setup_of c.args.arena.now) c.args.at.hash c.look.new.hand c.compare_and_delete-deleted.new.hand c.compare_and_delete-deleted.result c.compare_and_delete-deleted.ensures.no_memory)

pub returns-in-None-clause-calls : goal.returns-in-None-clause-calls
returns-in-None-clause-calls g c = λ is.
    record { between = c.look.new.hand; looks = c.look.ensures.calls; deletes = deleted_so c.compare_and_delete-deleted.result c.compare_and_delete-deleted.ensures.calls (sym c.deletion_of.ensures ∙ is) }

pub returns-in-None-clause-looks : goal.returns-in-None-clause-looks
returns-in-None-clause-looks g c = λ not.
    only_looks (setup_of c.args.arena.now) c.args.at.hash c.args.hand.now c.look.new.hand c.compare_and_delete-deleted.new.hand c.compare_and_delete-deleted.result deletion_of refl c.look.ensures.calls c.compare_and_delete-deleted.ensures.refused (λ is. not (c.deletion_of.ensures ∙ is))

pub returns-in-None-clause-slabs : goal.returns-in-None-clause-slabs
returns-in-None-clause-slabs g c =
    still_left (view c.args.hand.now) (view c.look.new.hand) (view c.compare_and_delete-deleted.new.hand) c.look.ensures.slabs
    (item_leaves (setup_of c.args.arena.now) c.args.at.hash c.look.new.hand c.compare_and_delete-deleted.new.hand c.args.version c.compare_and_delete-deleted.result c.compare_and_delete-deleted.ensures.deletes c.compare_and_delete-deleted.ensures.differs c.compare_and_delete-deleted.ensures.no_memory)
