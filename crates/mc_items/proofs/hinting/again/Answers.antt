use Rattle.std.proofs.Common.{◌≡◌, ◌∷◌, Err, ap, refl, subst, sym, ◌∙◌, ℕ}
use Rattle.mc_words.specs.declared.item.refs.Again.TheVariants as refused
use Rattle.mc_words.specs.declared.item.refs.Ref.{Ref}
use Rattle.mc_words.specs.hand.View.{View}
use Rattle.std.proofs.Common.{[]}
use Rattle.std.specs.Option.{option_map_or}
use Rattle.mc_core.specs.model.Holdings.{holding_of, item_of}
use Rattle.mc_core.specs.model.Views.{Row}
use Rattle.mc_words.specs.item.Again.{GetsAgain}
use Rattle.mc_words.specs.item.Items.{held_item}
use Rattle.mc_pages.specs.declared.ids.ChunkId.{ChunkId}
use Rattle.mc_core.specs.past.Past.{known_by}
use Rattle.mc_words.specs.item.References.{reference_to}
use Rattle.mc_words.specs.hand.Views.{fields_seen}
use Rattle.std.proofs.Math.Nat.{lt_of_not-le}
use Rattle.mc_words.proofs.Hands.HandNumbers.{number_stays}
use Rattle.mc_items.proofs.Chains.{hand_still, item_said, ready_more, refs_and_more, refs_stay}
use Rattle.mc_items.proofs.Left.{GotOne, Kept, again_one, read_one}
use Rattle.mc_items.proofs.GetLeaves.{again_kept}
use Rattle.mc_items.proofs.Currents.{gets_current}
use Rattle.mc_items.proofs.hinting.again.Goals as goal

pub returns-in-Ok-clause-known : goal.returns-in-Ok-clause-known
returns-in-Ok-clause-known c k among chunk issue =
    let last : View = c.look_at.new.hand.seat.me.0 in
    ap (λ (r : Ref). held_item last r.chunk) c.look_at.ensures.chunk ∙ (ap (λ (row : Row). option_map_or item_of (holding_of c.in-Ok.reference.chunk row.holdings) []) (ap (λ (v : View). v.row) c.look_at.ensures.view) ∙ c.in-Ok.ensures.known k among chunk issue)

pub returns-in-Ok-clause-at_limit : goal.returns-in-Ok-clause-at_limit
returns-in-Ok-clause-at_limit c = (λ e. absurd (cc), λ at_limit. let e = c.in-Ok.ensures.at_limit.1 at_limit in absurd (cc))

pub returns-in-Err-clause-gone : goal.returns-in-Err-clause-gone
returns-in-Err-clause-gone c e =
    let same : c.in-Err.error ≡ refused.Gone = cc in
    c.in-Err.ensures.gone (ap (λ x. Err x) same)

pub returns-in-Err-clause-contended : goal.returns-in-Err-clause-contended
returns-in-Err-clause-contended c e =
    let same : c.in-Err.error ≡ refused.Contended = cc in
    c.in-Err.ensures.contended (ap (λ x. Err x) same)

pub returns-in-Ok-clause-keeps : goal.returns-in-Ok-clause-keeps
returns-in-Ok-clause-keeps c =
    let view : View = c.args.hand.now.seat.me.0 in
    let got : View = c.again.new.hand.seat.me.0 in
    let now : View = c.look_at.new.hand.seat.me.0 in
    let hint = c.args.hint in
    let room = c.in-Ok.reference.room in
    let is = c.look_at.ensures.view ∙ ap (λ (chunk : ChunkId). fields_seen chunk got) c.in-Ok.ensures.hinted.0 in
    let one : GotOne hint.chunk hint.issue room view now = read_one hint.chunk hint.issue room view got now is (again_one hint.chunk hint.issue room view got c.in-Ok.ensures.gets) in
    let holding = reference_to hint.chunk hint.issue one.item in
    refs_and_more view now holding (known_by room holding ∷ []) (ap (λ (k : Kept). k.0) one.kept) (ap (λ (k : Kept). k.1) one.kept)

pub returns-in-Ok-clause-hand : goal.returns-in-Ok-clause-hand
returns-in-Ok-clause-hand c =
    let view : View = c.args.hand.now.seat.me.0 in
    let got : View = c.again.new.hand.seat.me.0 in
    let now : View = c.look_at.new.hand.seat.me.0 in
    let hint = c.args.hint in
    let room = c.in-Ok.reference.room in
    let is = c.look_at.ensures.view ∙ ap (λ (chunk : ChunkId). fields_seen chunk got) c.in-Ok.ensures.hinted.0 in
    let one : GotOne hint.chunk hint.issue room view now = read_one hint.chunk hint.issue room view got now is (again_one hint.chunk hint.issue room view got c.in-Ok.ensures.gets) in
    let holding = reference_to hint.chunk hint.issue one.item in record {
      arena = c.look_at.ensures.arena;
      ready = ready_more c.args.hand.now c.look_at.new.hand holding (c.look_at.ensures.locks ∙ c.again.ensures.locks) (ap (λ (k : Kept). k.0) one.kept) refl (lt_of_not-le (λ at_limit. let e = c.in-Ok.ensures.at_limit.1 at_limit in absurd (cc))) c.requires.ready;
      locks = c.look_at.ensures.locks ∙ c.again.ensures.locks;
      number = number_stays c.args.hand.now c.look_at.new.hand (ap (λ (k : Kept). k.3) one.kept);
    }

pub returns-in-Ok-clause-stores_words : goal.returns-in-Ok-clause-stores_words
returns-in-Ok-clause-stores_words c =
    item_said c.look_at.new.hand.seat.me.0 c.look_at.ensures.arena.lawful c.look_at.result c.look_at.ensures.item

pub returns-in-Err-clause-keeps : goal.returns-in-Err-clause-keeps
returns-in-Err-clause-keeps c =
    let view : View = c.args.hand.now.seat.me.0 in
    let now : View = c.again.new.hand.seat.me.0 in
    let kept = again_kept c.in-Err.error view c.args.hint.chunk c.args.hint.issue now c.in-Err.ensures.gone c.in-Err.ensures.contended c.in-Err.ensures.refused in
    refs_stay view now (ap (λ (k : Kept). k.0) kept) (ap (λ (k : Kept). k.1) kept)

pub returns-in-Err-clause-hand : goal.returns-in-Err-clause-hand
returns-in-Err-clause-hand c =
    let view : View = c.args.hand.now.seat.me.0 in
    let now : View = c.again.new.hand.seat.me.0 in
    let kept = again_kept c.in-Err.error view c.args.hint.chunk c.args.hint.issue now c.in-Err.ensures.gone c.in-Err.ensures.contended c.in-Err.ensures.refused in
    hand_still c.args.arena.now c.args.hand.now c.again.new.hand c.again.ensures.arena c.again.ensures.locks (ap (λ (k : Kept). k.0) kept) (ap (λ (k : Kept). k.3) kept) c.requires.ready

pub returns-in-Err-clause-no_more : goal.returns-in-Err-clause-no_more
returns-in-Err-clause-no_more c =
    let view : View = c.args.hand.now.seat.me.0 in
    let now : View = c.again.new.hand.seat.me.0 in
    let kept = again_kept c.in-Err.error view c.args.hint.chunk c.args.hint.issue now c.in-Err.ensures.gone c.in-Err.ensures.contended c.in-Err.ensures.refused in
    ap (λ (k : Kept). k.0) kept

pub returns-in-Err-clause-stores_nothing : goal.returns-in-Err-clause-stores_nothing
returns-in-Err-clause-stores_nothing c =
    let view : View = c.args.hand.now.seat.me.0 in
    let now : View = c.again.new.hand.seat.me.0 in
    let kept = again_kept c.in-Err.error view c.args.hint.chunk c.args.hint.issue now c.in-Err.ensures.gone c.in-Err.ensures.contended c.in-Err.ensures.refused in
    ap (λ (k : Kept). k.2) kept

pub returns-in-Ok-clause-current : goal.returns-in-Ok-clause-current
returns-in-Ok-clause-current c =
    let view : View = c.args.hand.now.seat.me.0 in
    let got : View = c.again.new.hand.seat.me.0 in
    let now : View = c.look_at.new.hand.seat.me.0 in
    let hint = c.args.hint in
    let is = c.look_at.ensures.view ∙ ap (λ (chunk : ChunkId). fields_seen chunk got) c.in-Ok.ensures.hinted.0 in
    let gets = subst (λ (room : ℕ). GetsAgain view hint.chunk hint.issue room got) (sym (ap (λ (r : Ref). r.room) c.look_at.ensures.chunk)) c.in-Ok.ensures.gets in
    gets_current view got now hint c.look_at.result gets is (ap (λ (r : Ref). r.chunk) c.look_at.ensures.chunk ∙ c.in-Ok.ensures.hinted.0) c.look_at.ensures.item
