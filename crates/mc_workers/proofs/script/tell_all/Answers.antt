use Rattle.std.proofs.Common.{◌≡◌, ℕ, true, List, ◌++◌, ap, sym, subst, ◌∙◌}
use Rattle.mc_classes.specs.Classes.{Classes}
use Rattle.mc_words.specs.hand.Arenas.{setup_of, view}
use Rattle.mc_words.specs.lock.Doing.{HoldsSlabs}
use Rattle.mc_words.specs.hand.View.{Setup}
use Rattle.mc_workers.specs.MoverReplies.{statistics_text}
use Rattle.mc_workers.specs.Script.{SurveysWhole}
use Rattle.mc_workers.specs.Surveyed.{ArePrintable}
use Rattle.mc_workers.proofs.Tellable.{survey_told, survey_whole}
use Rattle.mc_workers.proofs.script.tell_all.Goals as goal

-- what was surveyed can be told
pub push_statistics-requires : goal.push_statistics-requires
push_statistics-requires g c = record {
  tellable = subst (λ (table : Classes). ArePrintable table c.in_ok-survey.survey) (sym c.classes.ensures.classes)
      (survey_told c.args.arena.now c.args.joined.hand c.survey.new.hand true c.in_ok-survey.survey c.requires.ready.0 c.in_ok-survey.ensures.surveys);
}

pub returns : goal.returns
returns g c =
    let survey = c.in_ok-survey.survey in
    let before = view c.args.joined.hand in
    let now = view c.survey.new.hand in
    let workers = c.args.joined.workers.items in
    let mover = c.args.joined.mover.items in
    let longer = c.extend_from_slice.new.list.items in
    let statistics = statistics_text (setup_of c.args.arena.now).table survey in
    let texts : longer ≡ workers ++ mover = c.in_ok-extend_from_slice.ensures.items ∙ ap (λ (text : List ℕ). workers ++ text) c.deref.ensures.value in
    record {
      tells = record {
        survey = survey;
        last = c.survey.new.hand;
        surveys = subst (λ (setup : Setup). HoldsSlabs (SurveysWhole setup.table survey) before now) c.requires.ready.0.setup (survey_whole before now survey c.in_ok-survey.ensures.surveys);
        told = c.in_ok-push_statistics.ensures.text
            ∙ (ap (λ (table : Classes). longer ++ statistics_text table survey) c.classes.ensures.classes
            ∙ ap (λ (text : List ℕ). text ++ statistics) texts);
      };
    }
