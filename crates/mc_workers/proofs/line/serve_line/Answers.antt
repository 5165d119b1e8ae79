use Rattle.std.proofs.Common.{IfOk, sym, subst}
use Rattle.std.proofs.lemmas.Result.{IfOk-weaker}
use Rattle.mc_words.specs.hand.Arenas.{setup_of, view}
use Rattle.mc_serial_spec.specs.Item.{counting_words}
use Rattle.mc_script.specs.declared.command.Command.{Command}
use Rattle.mc_script.specs.declared.command.Command.TheVariants.{Delete, Get, Set, Touch}
use Rattle.mc_workers.specs.declared.reply.Reply.{Reply}
use Rattle.mc_workers.specs.Kept.{kept_references}
use Rattle.mc_workers.specs.Serving.{AnswersDelete, AnswersGet, AnswersSet, AnswersTouch, Serves}
use Rattle.mc_workers.proofs.KeptRefs.{holds_stay, kept_beside, kept_stay}
use Rattle.mc_workers.proofs.line.serve_line.Goals as goal

pub returns-in-Set-clause-stays : goal.returns-in-Set-clause-stays
returns-in-Set-clause-stays g c = record {
  hand_is = (c.set_words.ensures.hand.arena, c.set_words.ensures.hand.ready);
  number = c.set_words.ensures.hand.number;
  keeps = kept_beside (view c.args.hand.now) (view c.set_words.new.hand) c.args.kept.now.items c.requires.keeping.keeps c.set_words.ensures.holdings;
}

pub returns-in-Set-clause-serves : goal.returns-in-Set-clause-serves
returns-in-Set-clause-serves g c =
    let setup = setup_of c.args.arena.now in
    let kept = c.args.kept.now.items in
    let old = c.args.hand.now in
    let new = c.set_words.new.hand in
    subst (λ (m : Command). IfOk c.set_words.result (λ reply. Serves setup m reply (kept_references (view old) kept) old (kept_references (view new) kept) new)) (sym c.in-Set.is)
    (IfOk-weaker c.set_words.result (λ (reply : Reply). AnswersSet c.in-Set.key (counting_words c.in-Set.base c.in-Set.words) reply old new) (λ (reply : Reply). Serves setup (Set c.in-Set.worker c.in-Set.key c.in-Set.words c.in-Set.base) reply (kept_references (view old) kept) old (kept_references (view new) kept) new)
    (λ reply answers. (answers, holds_stay (view old) (view new) kept c.set_words.ensures.holdings.references c.requires.keeping.keeps.items)) c.set_words.ensures.answers)

pub returns-in-Get-clause-stays : goal.returns-in-Get-clause-stays
returns-in-Get-clause-stays g c = record {
  hand_is = (c.get_words.ensures.hand.arena, c.get_words.ensures.hand.ready);
  number = c.get_words.ensures.hand.number;
  keeps = kept_stay (view c.args.hand.now) (view c.get_words.new.hand) c.args.kept.now.items c.requires.keeping.keeps c.get_words.ensures.holdings;
}

pub returns-in-Get-clause-serves : goal.returns-in-Get-clause-serves
returns-in-Get-clause-serves g c =
    let setup = setup_of c.args.arena.now in
    let kept = c.args.kept.now.items in
    let old = c.args.hand.now in
    let new = c.get_words.new.hand in
    subst (λ (m : Command). IfOk c.get_words.result (λ reply. Serves setup m reply (kept_references (view old) kept) old (kept_references (view new) kept) new)) (sym c.in-Get.is)
    (IfOk-weaker c.get_words.result (λ (reply : Reply). AnswersGet setup c.in-Get.key reply old new) (λ (reply : Reply). Serves setup (Get c.in-Get.worker c.in-Get.key) reply (kept_references (view old) kept) old (kept_references (view new) kept) new)
    (λ reply answers. (answers, holds_stay (view old) (view new) kept c.get_words.ensures.holdings.references c.requires.keeping.keeps.items)) c.get_words.ensures.answers)

pub returns-in-Delete-clause-stays : goal.returns-in-Delete-clause-stays
returns-in-Delete-clause-stays g c = record {
  hand_is = (c.delete_key.ensures.hand.arena, c.delete_key.ensures.hand.ready);
  number = c.delete_key.ensures.hand.number;
  keeps = kept_beside (view c.args.hand.now) (view c.delete_key.new.hand) c.args.kept.now.items c.requires.keeping.keeps c.delete_key.ensures.holdings;
}

pub returns-in-Delete-clause-serves : goal.returns-in-Delete-clause-serves
returns-in-Delete-clause-serves g c =
    let setup = setup_of c.args.arena.now in
    let kept = c.args.kept.now.items in
    let old = c.args.hand.now in
    let new = c.delete_key.new.hand in
    subst (λ (m : Command). IfOk c.delete_key.result (λ reply. Serves setup m reply (kept_references (view old) kept) old (kept_references (view new) kept) new)) (sym c.in-Delete.is)
    (IfOk-weaker c.delete_key.result (λ (reply : Reply). AnswersDelete setup c.in-Delete.key reply old new) (λ (reply : Reply). Serves setup (Delete c.in-Delete.worker c.in-Delete.key) reply (kept_references (view old) kept) old (kept_references (view new) kept) new)
    (λ reply answers. (answers, holds_stay (view old) (view new) kept c.delete_key.ensures.holdings.references c.requires.keeping.keeps.items)) c.delete_key.ensures.answers)

pub returns-in-Touch-clause-stays : goal.returns-in-Touch-clause-stays
returns-in-Touch-clause-stays g c = record {
  hand_is = (c.touch_key.ensures.hand.arena, c.touch_key.ensures.hand.ready);
  number = c.touch_key.ensures.hand.number;
  keeps = kept_stay (view c.args.hand.now) (view c.touch_key.new.hand) c.args.kept.now.items c.requires.keeping.keeps c.touch_key.ensures.holdings;
}

pub returns-in-Touch-clause-serves : goal.returns-in-Touch-clause-serves
returns-in-Touch-clause-serves g c =
    let setup = setup_of c.args.arena.now in
    let kept = c.args.kept.now.items in
    let old = c.args.hand.now in
    let new = c.touch_key.new.hand in
    subst (λ (m : Command). IfOk c.touch_key.result (λ reply. Serves setup m reply (kept_references (view old) kept) old (kept_references (view new) kept) new)) (sym c.in-Touch.is)
    (IfOk-weaker c.touch_key.result (λ (reply : Reply). AnswersTouch setup c.in-Touch.key reply old new) (λ (reply : Reply). Serves setup (Touch c.in-Touch.worker c.in-Touch.key) reply (kept_references (view old) kept) old (kept_references (view new) kept) new)
    (λ reply answers. (answers, holds_stay (view old) (view new) kept c.touch_key.ensures.holdings.references c.requires.keeping.keeps.items)) c.touch_key.ensures.answers)
