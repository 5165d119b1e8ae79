-- A key that leads to a chunk, while the hand has the lock of its stripe: the chunk is linked, and so is handed out, and no sweep takes it.
use Rattle.std.proofs.Common.{◌≡◌, ℕ, ◌==◌, ◌&&◌, Bool, true, false, not, if◌then◌else◌, List, [], ◌∷◌, ◌++◌, Option, Some, None, refl, sym, ap, subst, ◌∙◌, inl, inr, arith}
use Rattle.std.specs.List.{fold}
use Rattle.std.proofs.lemmas.Bool.{and_from, and_parts, cases_Bool, or_left}
use Rattle.std.proofs.lemmas.List.Sums.{fold-append}
use Rattle.mc_pages.specs.declared.ids.ChunkId.{ChunkId}
use Rattle.mc_pages.specs.Changes.{after_back}
use Rattle.mc_pages.specs.ClassState.{is_chunk, times_in}
use Rattle.mc_pages.specs.SlabState.{SlabState, class_of_chunk}
use Rattle.mc_pages.proofs.Chunks.{same_from_is_chunk}
use Rattle.mc_stripe.specs.StripeState.{ReadyStripe}
use Rattle.mc_core.specs.declared.head.Head.{Head}
use Rattle.mc_core.specs.declared.head.Tag.{Tag}
use Rattle.mc_core.specs.declared.head.Tag.TheVariants.{Linked}
use Rattle.mc_core.specs.declared.look.Look.{Look}
use Rattle.mc_core.specs.declared.look.Look.TheVariants.{PutBack, Saw}
use Rattle.mc_core.specs.run.Chunks.{can_put_back, with_tag_free}
use Rattle.mc_core.specs.model.Head.{is_dead, is_linked, is_unlinked}
use Rattle.mc_core.specs.model.Looks.{stays_linked, was_linked}
use Rattle.mc_core.specs.past.Past.{Moment, header}
use Rattle.mc_core.specs.law.Seen.{last_read}
use Rattle.mc_core.specs.run.Silent.{is_among, is_handed_out}
use Rattle.mc_core.specs.model.State.{head_at}
use Rattle.mc_core.proofs.Steps.Base.{placed_at}
use Rattle.mc_core.proofs.Steps.Listed.{none_among}
use Rattle.mc_words.specs.hand.View.{View}
use Rattle.mc_words.specs.rule.Happens.{LawfulView}
use Rattle.mc_words.specs.item.Items.{word_read}
use Rattle.mc_words.specs.page.Owner.{PutsBack}
use Rattle.mc_words.specs.chunk.Copies.{PassesAll, PassesOver}
use Rattle.mc_words.specs.chunk.Sweeps.{SeesHeaders, Sweeps, SweepsEach, SweepsOne}
use Rattle.mc_words.specs.hand.Views.{head_seen, view_after_look, view_after_sight, with_event}
use Rattle.mc_core.specs.declared.event.Step.TheVariants as core
use Rattle.mc_words.proofs.Chunks.Heads.{near_here}
use Rattle.mc_words.proofs.Chunks.Judging.{seen_is}
use Rattle.mc_words.proofs.Locks.LockViews.{may_step}
use Rattle.mc_words.proofs.Pages.Owners.{needless, slabs_here}
use Rattle.mc_words.proofs.Items.Refers.{LeadsTo, entry_near, leads_here}

-- what is counted stands there
among_once : (chunks : List ChunkId) (chunk : ChunkId) → times_in chunk chunks ≡ 1 → is_among chunks chunk ≡ true
among_once chunks chunk once = elim (cases_Bool (is_among chunks chunk)) [
  | inl is ↦ is
  | inr isnt ↦ absurd (let none = none_among chunks chunk isnt in omega arith)
]

module _ (view : View) (stripe : ℕ) (value : ReadyStripe) (key : ℕ) (chunk : ChunkId) (stamp : ℕ) (to : LeadsTo view stripe value key chunk stamp) (was : LawfulView view) where
  abbrev m : Moment
  m = was.moment

  -- it is linked
  pub linked_now : (head_at m.state chunk).tag ≡ Linked
  linked_now = ((needless view was).entry key (chunk, stamp) (leads_here view stripe value key chunk stamp to was)).1

  -- and stands in its class's hand-out order
  pub out_now : (slabs : SlabState) → view.slabs ≡ Some slabs → is_handed_out slabs chunk ≡ true
  out_now slabs mine =
      let in_range = near_here view chunk (entry_near view stripe value key chunk stamp to was) was in
      ap (λ (x : SlabState). is_handed_out x chunk) (sym (slabs_here view was slabs mine).1)
      ∙ among_once (class_of_chunk m.state.slabs chunk).order chunk (placed_at m was.lawful chunk (head_at m.state chunk).issue in_range (inr linked_now, refl)).1

linked_alive : (head : Head) → head.tag ≡ Linked → is_dead head ≡ true → ⊥
linked_alive head linked dead =
    let alive : is_dead head ≡ false = ap (λ (t : Tag). is_unlinked t && head.count == 0) linked in
    let never : true ≡ false = sym dead ∙ alive in cc

-- what a look at a header tells of linked chunks and of words, and what a put back tells of other chunks
module _ (looks : List Look) (other : ChunkId) (head : Head) (chunk : ChunkId) where
  pub linked_seen : was_linked looks chunk ≡ true → was_linked (looks ++ Saw other head ∷ []) chunk ≡ true
  linked_seen linked = fold-append (stays_linked chunk) false looks (Saw other head ∷ []) ∙ or_left (was_linked looks chunk) (is_chunk other chunk && is_linked head.tag) linked

  pub read_seen : fold (last_read chunk 0) None (looks ++ Saw other head ∷ []) ≡ fold (last_read chunk 0) None looks
  read_seen = fold-append (last_read chunk 0) None looks (Saw other head ∷ [])

  linked_back : is_chunk other chunk ≡ false → was_linked looks chunk ≡ true → was_linked (looks ++ PutBack other head ∷ []) chunk ≡ true
  linked_back apart linked = fold-append (stays_linked chunk) false looks (PutBack other head ∷ []) ∙ and_from _ _ linked (ap not apart)

  read_back : is_chunk other chunk ≡ false → fold (last_read chunk 0) None (looks ++ PutBack other head ∷ []) ≡ fold (last_read chunk 0) None looks
  read_back apart = fold-append (last_read chunk 0) None looks (PutBack other head ∷ []) ∙ ap (λ (b : Bool). if b then None else fold (last_read chunk 0) None looks) apart

-- the hand has the slabs and the stripe, whose key leads to the chunk, which it found linked; and it read its key
pub record Reaches (view : View) (slabs : SlabState) (stripe : ℕ) (value : ReadyStripe) (key : ℕ) (chunk : ChunkId) (stamp : ℕ) (read : Option ℕ) : Type 0 where
  pub mine : view.slabs ≡ Some slabs
  pub leads : LeadsTo view stripe value key chunk stamp
  pub linked : was_linked view.row.looks chunk ≡ true
  pub read_is : word_read view chunk 0 ≡ read

module _ (stripe : ℕ) (value : ReadyStripe) (key : ℕ) (chunk : ChunkId) (stamp : ℕ) (read : Option ℕ) where
  -- so it is after a look at any header
  pub reaches_seen : (view now : View) (slabs : SlabState) (other : ChunkId) (head : Head) → now ≡ head_seen other head view → Reaches view slabs stripe value key chunk stamp read → Reaches now slabs stripe value key chunk stamp read
  reaches_seen view now slabs other head is at =
      let all : now ≡ with_event [] (core.Head other) (view_after_look (Saw other head) (view_after_sight (header other head) view)) = is ∙ seen_is view other head slabs at.mine in record {
        mine = ap (λ (v : View). v.slabs) all ∙ at.mine;
        leads = subst (λ (v : View). LeadsTo v stripe value key chunk stamp) (sym all) (record { mine = at.leads.mine; of_key = at.leads.of_key; leads = at.leads.leads });
        linked = ap (λ (v : View). was_linked v.row.looks chunk) all ∙ linked_seen view.row.looks other head chunk at.linked;
        read_is = ap (λ (v : View). word_read v chunk 0) all ∙ (read_seen view.row.looks other head chunk ∙ at.read_is);
      }

  -- a dead chunk that is put back is another one
  put_apart : (view now : View) (slabs : SlabState) (other : ChunkId) → Reaches view slabs stripe value key chunk stamp read → PutsBack view slabs other now → is_chunk other chunk ≡ false
  put_apart view now slabs other at puts = elim (cases_Bool (is_chunk other chunk)) [
    | inl same ↦
        absurd (
        let seen = reaches_seen view (head_seen other puts.head view) slabs other puts.head refl at in
        let state = puts.happens.was.moment.state in
        let linked = linked_now (head_seen other puts.head view) stripe value key chunk stamp seen.leads puts.happens.was in
        let may : can_put_back state puts.happens.was.hand other ≡ true = (may_step puts.happens).allowed in
        let dead : is_dead (head_at state other) ≡ true = (and_parts _ _ (and_parts _ _ may).0).1 in
        linked_alive (head_at state chunk) linked (subst (λ (c : ChunkId). is_dead (head_at state c) ≡ true) (same_from_is_chunk other chunk same) dead))
    | inr apart ↦ apart
  ]

  reaches_back : (view now : View) (slabs : SlabState) (other : ChunkId) → Reaches view slabs stripe value key chunk stamp read → PutsBack view slabs other now → Reaches now (after_back slabs other) stripe value key chunk stamp read
  reaches_back view now slabs other at puts =
      let apart = put_apart view now slabs other at puts in
      let seen = reaches_seen view (head_seen other puts.head view) slabs other puts.head refl at in
      let before : View = head_seen other puts.head view in record {
        mine = ap (λ (v : View). v.slabs) puts.is;
        leads = subst (λ (v : View). LeadsTo v stripe value key chunk stamp) (sym puts.is) (record { mine = at.leads.mine; of_key = at.leads.of_key; leads = at.leads.leads });
        linked = ap (λ (v : View). was_linked v.row.looks chunk) puts.is ∙ linked_back before.row.looks other (with_tag_free puts.head) chunk apart seen.linked;
        read_is = ap (λ (v : View). word_read v chunk 0) puts.is ∙ (read_back before.row.looks other (with_tag_free puts.head) chunk apart ∙ seen.read_is);
      }

  -- and after looks at headers
  reaches_looked : (chunks : List ChunkId) (view now : View) (slabs : SlabState) → SeesHeaders chunks view now → Reaches view slabs stripe value key chunk stamp read → Reaches now slabs stripe value key chunk stamp read
  reaches_looked [] view now slabs same at = subst (λ (v : View). Reaches v slabs stripe value key chunk stamp read) (sym same) at
  reaches_looked (other ∷ chunks) view now slabs (next, sees, rest) at = reaches_looked chunks next now slabs rest (reaches_seen view next slabs other sees.head sees.is at)

  -- and where chunks were put back, or seen otherwise
  reaches_each : (chunks : List ChunkId) (view : View) (slabs : SlabState) (now : View) (left : SlabState) → SweepsEach chunks view slabs now left → Reaches view slabs stripe value key chunk stamp read → Reaches now left stripe value key chunk stamp read
  reaches_each [] view slabs now left (same, is) at = subst (λ (p : View × SlabState). Reaches p.0 p.1 stripe value key chunk stamp read) (λ k. (sym same k, sym is k)) at
  reaches_each (other ∷ chunks) view slabs now left (next, between, one, rest) at = reaches_each chunks next between now left rest (by one)
    where
      by : SweepsOne other view slabs next between → Reaches next between stripe value key chunk stamp read
      by (inl (puts, is)) = subst (λ (s : SlabState). Reaches next s stripe value key chunk stamp read) (sym is) (reaches_back view next slabs other at puts)
      by (inr (sees, is)) = subst (λ (s : SlabState). Reaches next s stripe value key chunk stamp read) (sym is) (reaches_seen view next slabs sees.chunk sees.head sees.is at)

  -- and so after a sweep
  pub reaches_swept : (order : List ChunkId) (view : View) (slabs : SlabState) (now : View) (left : SlabState) → Sweeps order view slabs now left → Reaches view slabs stripe value key chunk stamp read → Reaches now left stripe value key chunk stamp read
  reaches_swept order view slabs now left sweeps at =
      let did = sweeps.recovers in reaches_each did.again did.seen slabs now left did.each (reaches_looked did.looked view did.seen slabs did.sees at)

  -- and where free chunks are passed over
  pub reaches_passed : (page : ℕ) (chunks : List ChunkId) (view now : View) (slabs : SlabState) → PassesAll page chunks view now → Reaches view slabs stripe value key chunk stamp read → Reaches now slabs stripe value key chunk stamp read
  reaches_passed page [] view now slabs same at = subst (λ (v : View). Reaches v slabs stripe value key chunk stamp read) (sym same) at
  reaches_passed page (other ∷ chunks) view now slabs (next, over, rest) at = reaches_passed page chunks next now slabs rest (by over)
    where
      by : PassesOver page other view next → Reaches next slabs stripe value key chunk stamp read
      by (inl (on, same)) = subst (λ (v : View). Reaches v slabs stripe value key chunk stamp read) (sym same) at
      by (inr (off, sees)) = reaches_seen view next slabs sees.chunk sees.head sees.is at
