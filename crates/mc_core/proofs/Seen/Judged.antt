-- What was seen under the slabs lock allows the holder's steps.
use Rattle.std.proofs.Common.{◌≡◌, ◌⊎◌, ℕ, ◌<◌, ◌==◌, ◌&&◌, ◌||◌, Bool, true, false, not, cond, List, [], ◌∷◌, ◌++◌, Option, Some, None, refl, sym, ap, ◌∙◌, subst, inl, inr, nat_lt, find, lt-ltb, ne_eqb, is_none}
use Rattle.std.specs.List.{list_all}
use Rattle.std.specs.Option.{option_map_or}
use Rattle.std.proofs.lemmas.Bool.{cases_Bool, and_parts, and_from, or_right}
use Rattle.mc_pages.specs.declared.ids.ChunkId.{ChunkId}
use Rattle.mc_pages.specs.ClassState.{is_chunk}
use Rattle.mc_pages.specs.SlabState.{SlabState, class_at, class_of_page}
use Rattle.mc_pages.proofs.Chunks.{is_chunk-same, same_from_is_chunk}
use Rattle.mc_pages.specs.Pages.{is_on_the_move}
use Rattle.mc_core.specs.declared.head.Head.{Head}
use Rattle.mc_core.specs.declared.head.Tag.{Tag}
use Rattle.mc_core.specs.declared.head.Tag.TheVariants.{Free, Unlinked, Linked}
use Rattle.mc_core.specs.declared.look.Look.{Look}
use Rattle.mc_core.specs.model.Head.{is_free, is_out, is_dead}
use Rattle.mc_core.specs.model.State.{is_class, has_chunk, head_at, has_slabs, looks_at}
use Rattle.mc_core.specs.run.Silent.{is_among, is_handed_out}
use Rattle.mc_core.specs.run.Chunks.{most_issue, has_place, can_hand_out, next_free, is_target, target_of, is_next_uncut, can_pop, can_pop_off, can_put_back, can_clear}
use Rattle.mc_core.specs.law.Seen.{seen_head, IsStill}
use Rattle.mc_core.specs.past.Past.{Moment}
use Rattle.mc_core.specs.law.Lawful.{IsLawful}
use Rattle.mc_core.specs.law.Judged.{is_seen_unfit, sees_no_target, SeesTarget, AllAreJudged}
use Rattle.mc_core.proofs.Steps.Listed.{or_parts, times_from_among}
use Rattle.mc_core.proofs.Places.FreeChunks.{near_placed, free_placed}
use Rattle.mc_core.proofs.Index.Entered.{tag_free}
use Rattle.mc_core.proofs.Steps.Needless.{are_needless, source_is}

-- a free header that is still as it was seen was seen so
free_still : (now seen : Head) → now.tag ≡ Free → IsStill now seen → now ≡ seen
free_still now seen free still = elim (cases_Bool (is_out seen.tag || is_free seen.tag || is_dead seen)) [
  | inl shut ↦ still.0 shut
  | inr out ↦ absurd (not_handed_out (still.1 out).0)
]
  where
    not_handed_out : (now.tag ≡ Unlinked) ⊎ (now.tag ≡ Linked) → ⊥
    not_handed_out (inl is) = let never : ◌≡◌ {A = Tag} Free Unlinked = sym free ∙ is in absurd (cc)
    not_handed_out (inr is) = let never : ◌≡◌ {A = Tag} Free Linked = sym free ∙ is in absurd (cc)

-- of the three tests the second or third passes
shut_if : (out free dead : Bool) → (free || dead) ≡ true → (out || free || dead) ≡ true
shut_if true free dead h = refl
shut_if false free dead h = h

-- no chunk of a list passes, where each fails
find_none : (test : ChunkId → Bool) (chunks : List ChunkId) → ((chunk : ChunkId) → is_among chunks chunk ≡ true → test chunk ≡ false) → find test chunks ≡ None
find_none test [] fails = refl
find_none test (c ∷ chunks) fails =
    subst (λ b. cond b (Some c) (find test chunks) ≡ None) (sym (fails c (ap (λ b. b || is_among chunks c) (is_chunk-same c))))
    (find_none test chunks (λ chunk among. fails chunk (or_right (is_chunk c chunk) (is_among chunks chunk) among)))

-- the first that passes, behind others that fail
find_first : (test : ChunkId → Bool) (before after : List ChunkId) (chunk : ChunkId) → ((other : ChunkId) → is_among before other ≡ true → test other ≡ false) → test chunk ≡ true →
    find test (before ++ chunk ∷ after) ≡ Some chunk
find_first test [] after chunk fails passes = subst (λ b. cond b (Some chunk) (find test after) ≡ Some chunk) (sym passes) refl
find_first test (c ∷ before) after chunk fails passes =
    subst (λ b. cond b (Some c) (find test (before ++ chunk ∷ after)) ≡ Some chunk) (sym (fails c (ap (λ b. b || is_among before c) (is_chunk-same c))))
    (find_first test before after chunk (λ other among. fails other (or_right (is_chunk c other) (is_among before other) among)) passes)

-- what all pass, each passes
all_among : (test : ChunkId → Bool) (chunks : List ChunkId) (chunk : ChunkId) → list_all test chunks ≡ true → is_among chunks chunk ≡ true → test chunk ≡ true
all_among test [] chunk all among = absurd (cc)
all_among test (c ∷ chunks) chunk all among =
    let parts = and_parts (test c) (list_all test chunks) all in
    or_parts (is_chunk c chunk) (is_among chunks chunk) (test chunk ≡ true) among (λ is. subst (λ x. test x ≡ true) (same_from_is_chunk c chunk is) parts.0) (λ rest. all_among test chunks chunk parts.1 rest)

among_left : (before after : List ChunkId) (chunk : ChunkId) → is_among before chunk ≡ true → is_among (before ++ after) chunk ≡ true
among_left [] after chunk among = absurd (cc)
among_left (c ∷ before) after chunk among =
    or_parts (is_chunk c chunk) (is_among before chunk) ((is_chunk c chunk || is_among (before ++ after) chunk) ≡ true) among
    (λ is. ap (λ b. b || is_among (before ++ after) chunk) is) (λ rest. or_right (is_chunk c chunk) (is_among (before ++ after) chunk) (among_left before after chunk rest))

among_here : (before after : List ChunkId) (chunk : ChunkId) → is_among (before ++ chunk ∷ after) chunk ≡ true
among_here [] after chunk = ap (λ b. b || is_among after chunk) (is_chunk-same chunk)
among_here (c ∷ before) after chunk = or_right (is_chunk c chunk) (is_among (before ++ chunk ∷ after) chunk) (among_here before after chunk)

module _ (m : Moment) (l : IsLawful m) (hand : ℕ) (has : has_slabs m.state hand ≡ true) where
  abbrev slabs : SlabState
  slabs = m.state.slabs

  abbrev looks : List Look
  looks = looks_at m.state hand

  -- what was seen free or dead is so
  same_shut : (chunk : ChunkId) (seen : Head) → has_chunk m.state.table chunk ≡ true → seen_head looks chunk ≡ Some seen → (is_free seen.tag || is_dead seen) ≡ true → head_at m.state chunk ≡ seen
  same_shut chunk seen in_range last shut = ((l.seen hand has).last_heads chunk seen in_range last).0 (shut_if (is_out seen.tag) (is_free seen.tag) (is_dead seen) shut)

  -- what is free was seen so
  same_free : (chunk : ChunkId) (seen : Head) → has_chunk m.state.table chunk ≡ true → (head_at m.state chunk).tag ≡ Free → seen_head looks chunk ≡ Some seen → head_at m.state chunk ≡ seen
  same_free chunk seen in_range free last = free_still (head_at m.state chunk) seen free ((l.seen hand has).last_heads chunk seen in_range last)

  next : (class : ℕ) (chunk : ChunkId) (seen : Head) → is_class m.state.table class ≡ true → next_free m.state class ≡ Some chunk → seen_head looks chunk ≡ Some seen → head_at m.state chunk ≡ seen
  next class chunk seen is first last = let at = (are_needless m l).next class chunk is first in same_free chunk seen at.0 at.1 last

  -- a free chunk that isn't used up may be handed out
  may_hand_out : (chunk : ChunkId) (seen : Head) → (head_at m.state chunk).tag ≡ Free → head_at m.state chunk ≡ seen → seen.issue < most_issue → can_hand_out m.state (Some chunk) ≡ true
  may_hand_out chunk seen free same unused =
      and_from _ _ (ap is_free free) (ap (λ (h : Head). nat_lt h.issue most_issue) same ∙ lt-ltb seen.issue most_issue unused)

  pop : (class : ℕ) (chunk : ChunkId) (seen : Head) → is_class m.state.table class ≡ true → has_place m.state hand ≡ true → next_free m.state class ≡ Some chunk →
      seen_head looks chunk ≡ Some seen → seen.issue < most_issue → can_pop m.state hand class ≡ true
  pop class chunk seen is place first last unused =
      let free = ((are_needless m l).next class chunk is first).1 in
      and_from _ _ (and_from _ _ (and_from _ _ has is) place)
      (ap (can_hand_out m.state) first ∙ may_hand_out chunk seen free (next class chunk seen is first last) unused)

  module _ (page : ℕ) (moves : is_on_the_move slabs page ≡ true) where
    abbrev free : List ChunkId
    free = (class_at slabs (class_of_page slabs page)).free

    abbrev test : ChunkId → Bool
    test = is_target m.state.table m.state.heads page

    free_is : (chunk : ChunkId) → is_among free chunk ≡ true → (has_chunk m.state.table chunk ≡ true) × ((head_at m.state chunk).tag ≡ Free)
    free_is chunk among =
        let at = free_placed m l (class_of_page slabs page) chunk (source_is m l page moves) (times_from_among free chunk among) in
        (near_placed m l chunk at.1, tag_free (head_at m.state chunk).tag at.2)

    -- what was seen unfit is no target
    unfit : (chunk : ChunkId) → is_among free chunk ≡ true → is_seen_unfit looks page chunk ≡ true → test chunk ≡ false
    unfit chunk among is = elim (cases_Bool (chunk.page == page)) [
      | inl there ↦ ap (λ b. not b && nat_lt (head_at m.state chunk).issue most_issue) there
      | inr off ↦ by_seen (seen_head looks chunk) refl (ap (λ b. b || option_map_or (λ (head : Head). not (nat_lt head.issue most_issue)) (seen_head looks chunk) false) (sym off) ∙ is)
    ]
      where
        used : (page_off fits : Bool) → not fits ≡ true → (page_off && fits) ≡ false
        used true true h = absurd (cc)
        used true false h = refl
        used false fits h = refl

        by_seen : (seen : Option Head) → seen_head looks chunk ≡ seen → option_map_or (λ (head : Head). not (nat_lt head.issue most_issue)) seen false ≡ true → test chunk ≡ false
        by_seen None last h = absurd (cc)
        by_seen (Some seen) last h =
            let at = free_is chunk among in
            let same = same_free chunk seen at.0 at.1 last in
            used (not (chunk.page == page)) (nat_lt (head_at m.state chunk).issue most_issue) (ap (λ (h : Head). not (nat_lt h.issue most_issue)) same ∙ h)

    none : sees_no_target slabs looks page ≡ true → target_of m.state.table m.state.heads slabs page ≡ None
    none all = find_none test free (λ chunk among. unfit chunk among (all_among (is_seen_unfit looks page) free chunk all among))

    target : (chunk : ChunkId) → (sees : SeesTarget slabs looks page chunk) → (target_of m.state.table m.state.heads slabs page ≡ Some chunk) × (head_at m.state chunk ≡ sees.seen)
    target chunk sees =
        let among : is_among free chunk ≡ true = subst (λ cs. is_among cs chunk ≡ true) (sym sees.stands) (among_here sees.before sees.after chunk) in
        let at = free_is chunk among in
        let same = same_free chunk sees.seen at.0 at.1 sees.last in
        let passes : test chunk ≡ true = and_from _ _ (ap not (ne_eqb chunk.page page sees.off)) (ap (λ (h : Head). nat_lt h.issue most_issue) same ∙ lt-ltb sees.seen.issue most_issue sees.unused) in
        let fails : (other : ChunkId) → is_among sees.before other ≡ true → test other ≡ false = λ other before.
        unfit other (subst (λ cs. is_among cs other ≡ true) (sym sees.stands) (among_left sees.before (chunk ∷ sees.after) other before)) (all_among (is_seen_unfit looks page) sees.before other sees.unfit before) in
        (ap (find test) sees.stands ∙ find_first test sees.before sees.after chunk fails passes, same)

  pop_off : (old chunk : ChunkId) → is_on_the_move slabs old.page ≡ true → is_handed_out slabs old ≡ true → has_place m.state hand ≡ true → SeesTarget slabs looks old.page chunk → can_pop_off m.state hand old ≡ true
  pop_off old chunk moves out place sees =
      let found = target old.page moves chunk sees in
      let free = ((are_needless m l).target old.page chunk moves found.0).1 in
      and_from _ _ (and_from _ _ (and_from _ _ (and_from _ _ has moves) out) place)
      (ap (can_hand_out m.state) found.0 ∙ may_hand_out chunk sees.seen free found.1 sees.unused)

  put_back : (chunk : ChunkId) (seen : Head) → has_chunk m.state.table chunk ≡ true → seen_head looks chunk ≡ Some seen → is_dead seen ≡ true → (head_at m.state chunk ≡ seen) × (can_put_back m.state hand chunk ≡ true)
  put_back chunk seen in_range last dead =
      let same = same_shut chunk seen in_range last (or_right (is_free seen.tag) (is_dead seen) dead) in
      let is : is_dead (head_at m.state chunk) ≡ true = ap is_dead same ∙ dead in
      (same, and_from _ _ (and_from _ _ (and_from _ _ has in_range) is) ((are_needless m l).dead chunk in_range is))

  clear : (chunk : ChunkId) (seen : Head) → has_chunk m.state.table chunk ≡ true → is_on_the_move slabs chunk.page ≡ true → seen_head looks chunk ≡ Some seen →
      (is_free seen.tag || is_dead seen) ≡ true → (head_at m.state chunk ≡ seen) × (can_clear m.state hand chunk ≡ true)
  clear chunk seen in_range moves last shut =
      let same = same_shut chunk seen in_range last shut in
      let is : (is_free (head_at m.state chunk).tag || is_dead (head_at m.state chunk)) ≡ true = ap (λ (h : Head). is_free h.tag || is_dead h) same ∙ shut in
      (same, and_from _ _ (and_from _ _ (and_from _ _ (and_from _ _ has in_range) moves) is) ((are_needless m l).unused chunk in_range is))

pub all_are_judged : AllAreJudged
all_are_judged m l hand has = record {
  next = next m l hand has;
  pop = pop m l hand has;
  target = λ page chunk moves sees. target m l hand has page moves chunk sees;
  pop_off = pop_off m l hand has;
  none = λ page moves all. none m l hand has page moves all;
  leave = λ chunk moves dead all. and_from _ _ (and_from _ _ moves dead) (ap is_none (none m l hand has chunk.page moves all));
  put_back = put_back m l hand has;
  clear = clear m l hand has;
  cut = λ chunk is.
      let at = (are_needless m l).uncut chunk is in
      let next : is_next_uncut m.state.slabs chunk ≡ true = ap (λ (u : Option ChunkId). option_map_or (λ (c : ChunkId). is_chunk c chunk) u false) is ∙ is_chunk-same chunk in
      and_from _ _ (and_from _ _ (and_from _ _ has at.0) next) (ap is_out at.1);
  key = λ chunk key in_range read. ((l.seen hand has).read_words chunk 0 key in_range read).same;
}
