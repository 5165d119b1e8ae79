-- The lists that rows are, after a chunk left one of them or came into it.
use Rattle.std.proofs.Common.{◌≡◌, ◌≢◌, ℕ, ◌+◌, ◌-◌, ◌≤◌, true, false, if◌then◌else◌, List, [], ◌∷◌, ◌++◌, length, Option, Some, None, refl, sym, ap, ◌∙◌, subst, inl, inr, ◌⊎◌, arith, length-append}
use Rattle.std.proofs.lemmas.Bool.{cases_Bool, cases_lt}
use Rattle.mc_pages.specs.declared.ids.ChunkId.{ChunkId}
use Rattle.mc_pages.specs.declared.rows.ListName.{ListName}
use Rattle.mc_pages.specs.declared.rows.Mark.TheVariants.{Unlisted}
use Rattle.mc_pages.specs.declared.rows.Field.TheVariants.{Next, Previous, Head, Tail}
use Rattle.mc_pages.specs.ClassState.{is_chunk, times_in, without, with_before}
use Rattle.mc_pages.specs.Accounted.{truth}
use Rattle.mc_pages.specs.Rows.{RowsState, IsField, IsRow, IsList, row_of_chunk, field_of, list_length, with_mark, with_length}
use Rattle.mc_pages.specs.Linked.{walk, list_chunks, forth, back, IsChain, IsLinked, AreLinked, AreLinkedBut, with_list, sizes_of, list_mark, with_neighbours, with_chunk_between, list_without_chunk}
use Rattle.mc_pages.proofs.Chunks.{is_chunk-same, same_from_is_chunk, times-cons, times-push, times-without, length-without}
use Rattle.mc_pages.proofs.Lists.{times-with_before, length-with_before}
use Rattle.mc_pages.proofs.Runs.{Links, IsOutside, Some≢None, None≢Some, same_Some, times-head, before_in, behind_in, last_in, walk_run}
use Rattle.mc_pages.proofs.RunChanges.{Comes, IsOnce, run_without, run_cons, run_before, run_push}
use Rattle.mc_pages.proofs.RowFields.{cases_chunk, cases_list, is_list-same, is_list-other, sizes-with_length, length-same, length-other, mark-with_length, mark-same, mark-other, length-with_mark, sizes-with_mark, IsRow-sizes, IsList-sizes, IsField-sizes}
use Rattle.mc_pages.proofs.Joined.{forth_in, back_in, sizes-joined, length-joined, joined_joins, joins_comes, run-joined, run-with_length, run-with_mark, mark-joined}

-- what is read from the rows are the lists that they are
pub chunks_are : {loose : Option ChunkId} (rows : RowsState) (lists : ListName → List ChunkId) → IsLinked rows lists loose → (list : ListName) → list_chunks rows list ≡ lists list
chunks_are rows lists is list =
    ap (λ (n : ℕ). walk (λ chunk. field_of rows (Next chunk)) n (field_of rows (Head list))) (is.long list)
    ∙ walk_run (forth_in rows list) (back_in rows list) None (lists list) (is.runs list)

pub are_linked : {loose : Option ChunkId} (rows : RowsState) (lists : ListName → List ChunkId) → IsLinked rows lists loose → IsLinked rows (list_chunks rows) loose
are_linked {loose = loose} rows lists is = subst (λ (ls : ListName → List ChunkId). IsLinked rows ls loose) (λ i list. sym (chunks_are rows lists is list) i) is

-- the list that was changed, and every other
pub with_list-same : (lists : ListName → List ChunkId) (list : ListName) (chunks : List ChunkId) → with_list lists list chunks list ≡ chunks
with_list-same lists list chunks = ap (λ b. if b then chunks else lists list) (is_list-same list)

pub with_list-other : (lists : ListName → List ChunkId) (list other : ListName) (chunks : List ChunkId) → other ≢ list → with_list lists list chunks other ≡ lists other
with_list-other lists list other chunks differs = ap (λ b. if b then chunks else lists other) (is_list-other other list differs)

-- the link is to a chunk of the list, or to its end
abbrev pub IsNear : Option ChunkId → List ChunkId → Type 0
IsNear link chunks = (link ≡ None) ⊎ ((c : ChunkId) × (link ≡ Some c) × (1 ≤ times_in c chunks))

-- the first link of a list is near it
head_in : (n p : Links) (from : Option ChunkId) (chunks : List ChunkId) → IsChain n p from chunks → IsNear (n from) chunks
head_in n p from [] run = inl run.0
head_in n p from (c ∷ cs) run = inr (c, run.0, omega (arith, times-head c cs))

-- no link is to a chunk of a list that doesn't have it
near_apart : (link : Option ChunkId) (chunks : List ChunkId) (chunk : ChunkId) → IsNear link chunks → times_in chunk chunks ≡ 0 → link ≢ Some chunk
near_apart link chunks chunk in_range absent h =
    elim in_range [
      | inl none ↦ None≢Some chunk (sym none ∙ h)
      | inr (c, is, within) ↦ absurd (omega (arith, within, absent, ap (λ (x : ChunkId). times_in x chunks) (same_Some c chunk (sym is ∙ h))))
    ]

-- the fields of the links of a list
near_forth : {loose : Option ChunkId} (rows : RowsState) (lists : ListName → List ChunkId) (list : ListName) (link : Option ChunkId) → IsLinked rows lists loose → IsList rows list → IsNear link (lists list) → IsField rows (forth list link)
near_forth rows lists list link is there in_range =
    elim in_range [
      | inl none ↦ subst (λ (l : Option ChunkId). IsField rows (forth list l)) (sym none) there
      | inr (c, h, within) ↦ subst (λ (l : Option ChunkId). IsField rows (forth list l)) (sym h) (is.placed list c within)
    ]

near_back : {loose : Option ChunkId} (rows : RowsState) (lists : ListName → List ChunkId) (list : ListName) (link : Option ChunkId) → IsLinked rows lists loose → IsList rows list → IsNear link (lists list) → IsField rows (back list link)
near_back rows lists list link is there in_range =
    elim in_range [
      | inl none ↦ subst (λ (l : Option ChunkId). IsField rows (back list l)) (sym none) there
      | inr (c, h, within) ↦ subst (λ (l : Option ChunkId). IsField rows (back list l)) (sym h) (is.placed list c within)
    ]

-- they are to no chunk of another list
near_outside : {loose : Option ChunkId} (rows : RowsState) (lists : ListName → List ChunkId) (list other : ListName) (link : Option ChunkId) → IsLinked rows lists loose → other ≢ list → IsNear link (lists list) → IsOutside link (lists other)
near_outside rows lists list other link is differs in_range c there h =
    elim in_range [
      | inl none ↦ Some≢None c (h ∙ none)
      | inr (x, e, within) ↦ absurd (omega (arith, is.apart list other x differs within, there, ap (λ (y : ChunkId). times_in y (lists other)) (same_Some c x (h ∙ e))))
    ]

-- a chunk was in the list, or it was in none
abbrev WasThere : RowsState → (ListName → List ChunkId) → ListName → ChunkId → Type 0
WasThere rows lists list chunk = (1 ≤ times_in chunk (lists list)) ⊎ (((other : ListName) → times_in chunk (lists other) ≡ 0) × IsRow rows chunk)

was_absent : {loose : Option ChunkId} (rows : RowsState) (lists : ListName → List ChunkId) (list other : ListName) (chunk : ChunkId) → IsLinked rows lists loose → other ≢ list → WasThere rows lists list chunk → times_in chunk (lists other) ≡ 0
was_absent rows lists list other chunk is differs was =
    elim was [
      | inl there ↦ is.apart list other chunk differs there
      | inr (absent, row) ↦ absent other
    ]

-- the rows are lists after a change of one of them
relinked : {loose left : Option ChunkId} (rows after : RowsState) (lists : ListName → List ChunkId) (list : ListName) (chunks : List ChunkId) → IsLinked rows lists loose → sizes_of after ≡ sizes_of rows → IsChain (forth_in after list) (back_in after list) None chunks → ((other : ListName) → other ≢ list → IsChain (forth_in after other) (back_in after other) None (lists other)) → list_length after list ≡ length chunks → ((other : ListName) → other ≢ list → list_length after other ≡ list_length rows other) → IsOnce chunks → ((chunk : ChunkId) → 1 ≤ times_in chunk chunks → WasThere rows lists list chunk) → ((chunk : ChunkId) → 1 ≤ times_in chunk chunks → (row_of_chunk after chunk).mark ≡ list_mark list) → ((other : ListName) (chunk : ChunkId) → other ≢ list → 1 ≤ times_in chunk (lists other) → (row_of_chunk after chunk).mark ≡ (row_of_chunk rows chunk).mark) → ((chunk : ChunkId) → left ≢ Some chunk → (row_of_chunk after chunk).mark ≢ Unlisted → (other : ListName) × (1 ≤ times_in chunk (with_list lists list chunks other))) → IsLinked after (with_list lists list chunks) left
relinked rows after lists list chunks is sizes run runs long longs once was side sides listed =
    let new = with_list lists list chunks in
    let same = with_list-same lists list chunks in
    let kept = with_list-other lists list in
    record {
      runs = λ other. elim (cases_list other list) [
        | inl e ↦ subst (λ (l : ListName). IsChain (forth_in after l) (back_in after l) None (new l)) (sym e) (subst (IsChain (forth_in after list) (back_in after list) None) (sym same) run)
        | inr differs ↦ subst (IsChain (forth_in after other) (back_in after other) None) (sym (kept other chunks differs)) (runs other differs)
      ];
      long = λ other. elim (cases_list other list) [
        | inl e ↦ subst (λ (l : ListName). list_length after l ≡ length (new l)) (sym e) (long ∙ ap length (sym same))
        | inr differs ↦ longs other differs ∙ (is.long other ∙ ap length (sym (kept other chunks differs)))
      ];
      once = λ other chunk. elim (cases_list other list) [
        | inl e ↦ subst (λ (l : ListName). times_in chunk (new l) ≤ 1) (sym e) (subst (λ (cs : List ChunkId). times_in chunk cs ≤ 1) (sym same) (once chunk))
        | inr differs ↦ subst (λ (cs : List ChunkId). times_in chunk cs ≤ 1) (sym (kept other chunks differs)) (is.once other chunk)
      ];
      apart = λ one other chunk differs there. elim (cases_list one list) [
        | inl e ↦
            let not : other ≢ list = λ h. differs (h ∙ sym e) in
            let here = subst (λ (l : ListName). 1 ≤ times_in chunk (new l)) e there in
            ap (times_in chunk) (kept other chunks not) ∙ was_absent rows lists list other chunk is not (was chunk (subst (λ (cs : List ChunkId). 1 ≤ times_in chunk cs) same here))
        | inr not ↦
            let before : 1 ≤ times_in chunk (lists one) = subst (λ (cs : List ChunkId). 1 ≤ times_in chunk cs) (kept one chunks not) there in
            elim (cases_list other list) [
              | inl e ↦
                  elim (cases_lt 0 (times_in chunk chunks)) [
                    | inl some ↦ absurd (omega (arith, was_absent rows lists list one chunk is not (was chunk some), before))
                    | inr none ↦ subst (λ (l : ListName). times_in chunk (new l) ≡ 0) (sym e) (ap (times_in chunk) same ∙ omega (arith, none))
                  ]
              | inr not-2 ↦ ap (times_in chunk) (kept other chunks not-2) ∙ is.apart one other chunk differs before
            ]
      ];
      sides = λ other chunk there. elim (cases_list other list) [
        | inl e ↦
            let here = subst (λ (cs : List ChunkId). 1 ≤ times_in chunk cs) same (subst (λ (l : ListName). 1 ≤ times_in chunk (new l)) e there) in
            side chunk here ∙ ap list_mark (sym e)
        | inr differs ↦
            let before : 1 ≤ times_in chunk (lists other) = subst (λ (cs : List ChunkId). 1 ≤ times_in chunk cs) (kept other chunks differs) there in
            sides other chunk differs before ∙ is.sides other chunk before
      ];
      placed = λ other chunk there. IsRow-sizes rows after chunk sizes (elim (cases_list other list) [
        | inl e ↦
            let here = subst (λ (cs : List ChunkId). 1 ≤ times_in chunk cs) same (subst (λ (l : ListName). 1 ≤ times_in chunk (new l)) e there) in
            elim (was chunk here) [
              | inl before ↦ is.placed list chunk before
              | inr (absent, row) ↦ row
            ]
        | inr differs ↦ is.placed other chunk (subst (λ (cs : List ChunkId). 1 ≤ times_in chunk cs) (kept other chunks differs) there)
      ]);
      listed = listed;
    }

-- two names of two chunks differ
is_chunk-other : (a b : ChunkId) → a ≢ b → is_chunk a b ≡ false
is_chunk-other a b differs =
    elim (cases_Bool (is_chunk a b)) [
      | inl same ↦ absurd (differs (same_from_is_chunk a b same))
      | inr other ↦ other
    ]

-- a chunk that stays in a list is in one of them still
still_listed : (lists : ListName → List ChunkId) (list : ListName) (chunks : List ChunkId) (chunk : ChunkId) → (1 ≤ times_in chunk (lists list) → 1 ≤ times_in chunk chunks) → (other : ListName) × (1 ≤ times_in chunk (lists other)) → (other : ListName) × (1 ≤ times_in chunk (with_list lists list chunks other))
still_listed lists list chunks chunk stays (other, there) =
    elim (cases_list other list) [
      | inl same ↦
          let here : 1 ≤ times_in chunk (lists list) = subst (λ (l : ListName). 1 ≤ times_in chunk (lists l)) same there in
          (list, omega (arith, stays here, ap (times_in chunk) (with_list-same lists list chunks)))
      | inr differs ↦ (other, omega (arith, there, ap (times_in chunk) (with_list-other lists list other chunks differs)))
    ]

-- a chunk has left its list
pub unlinked_linked : (rows : RowsState) (lists : ListName → List ChunkId) (list : ListName) (chunk : ChunkId) → IsLinked rows lists None → IsList rows list → 1 ≤ times_in chunk (lists list) → IsLinked (list_without_chunk rows list chunk) (with_list lists list (without chunk (lists list))) (Some chunk)
unlinked_linked rows lists list chunk is there within =
    let n = forth_in rows list in
    let p = back_in rows list in
    let a = field_of rows (Previous chunk) in
    let b = field_of rows (Next chunk) in
    let in_range : IsNear a (lists list) = before_in n p None (lists list) chunk (is.runs list) within in
    let near-2 : IsNear b (lists list) = behind_in n p None (lists list) chunk (is.runs list) within in
    let field = near_forth rows lists list a is there in_range in
    let field-2 = near_back rows lists list b is there near-2 in
    let between = with_neighbours rows list a b in
    let sizes = sizes-joined rows list a b in
    let count = list_length between list - 1 in
    let after = with_length between list count in
    let left = run_without n p (forth_in between list) (back_in between list) None (lists list) chunk within (is.once list) (λ c _. Some≢None c) (joined_joins rows list a b field field-2) (is.runs list) in
    let here = IsList-sizes rows between list sizes there in
    let side : (x : ChunkId) → (row_of_chunk after x).mark ≡ (row_of_chunk rows x).mark = λ x. mark-with_length between list count x ∙ mark-joined rows list a b x field field-2 in
    relinked rows after lists list (without chunk (lists list)) is (sizes-with_length between list count ∙ sizes)
    (run-with_length between list list count None _ left)
    (λ other differs. run-with_length between list other count None _ (run-joined rows list other a b (lists other) field field-2 differs (near_outside rows lists list other a is differs in_range) (near_outside rows lists list other b is differs near-2) (is.runs other)))
    (omega (arith, length-same between list count here, length-joined rows list list a b, is.long list, length-without chunk (lists list) within))
    (λ other differs. length-other between list other count differs ∙ length-joined rows list other a b)
    (λ x. omega (arith, times-without x chunk (lists list) within, is.once list x))
    (λ x left. inl (omega (arith, times-without x chunk (lists list) within, left)))
    (λ x left. side x ∙ is.sides list x (omega (arith, times-without x chunk (lists list) within, left)))
    (λ other x differs _. side x)
    (λ x apart marked.
    let differs : x ≢ chunk = λ h. apart (ap (λ (c : ChunkId). Some c) (sym h)) in
    still_listed lists list (without chunk (lists list)) x
    (λ here. omega (arith, times-without x chunk (lists list) within, ap truth (is_chunk-other chunk x (λ h. differs (sym h))), here))
    (is.listed x (None≢Some x) (λ h. marked (side x ∙ h))))

-- a chunk has come into a list
come_linked : (rows : RowsState) (lists : ListName → List ChunkId) (list : ListName) (a : Option ChunkId) (chunk : ChunkId) (b : Option ChunkId) (chunks : List ChunkId) → IsLinked rows lists (Some chunk) → IsList rows list → IsRow rows chunk → ((other : ListName) → times_in chunk (lists other) ≡ 0) → IsNear a (lists list) → IsNear b (lists list) → ((n p : Links) → Comes (forth_in rows list) (back_in rows list) n p a chunk b → IsChain n p None chunks) → ((x : ChunkId) → times_in x chunks ≡ times_in x (lists list) + truth (is_chunk chunk x)) → length chunks ≡ length (lists list) + 1 → IsLinked (with_chunk_between rows list a chunk b) (with_list lists list chunks) None
come_linked rows lists list a chunk b chunks is there row absent in_range near-2 runs counts longer =
    let field = near_forth rows lists list a is there in_range in
    let field-2 = near_back rows lists list b is there near-2 in
    let first = with_neighbours rows list a (Some chunk) in
    let sizes = sizes-joined rows list a (Some chunk) in
    let both = with_neighbours first list (Some chunk) b in
    let sizes-2 = sizes-joined first list (Some chunk) b ∙ sizes in
    let between = with_mark both chunk (list_mark list) in
    let sizes-3 = sizes-with_mark both chunk (list_mark list) ∙ sizes-2 in
    let row-2 = IsRow-sizes rows first chunk sizes row in
    let row-3 = IsRow-sizes rows both chunk sizes-2 row in
    let field-3 = IsField-sizes rows first (back list b) sizes field-2 in
    let count = list_length between list + 1 in
    let after = with_length between list count in
    let comes = joins_comes (forth_in rows list) (back_in rows list) (forth_in first list) (back_in first list) (forth_in both list) (back_in both list) a chunk b (near_apart a (lists list) chunk in_range (absent list)) (near_apart b (lists list) chunk near-2 (absent list))
    (joined_joins rows list a (Some chunk) field row) (joined_joins first list (Some chunk) b row-2 field-3) in
    let out : (other : ListName) → IsOutside (Some chunk) (lists other) = λ other c within h. absurd (omega (arith, within, absent other, ap (λ (x : ChunkId). times_in x (lists other)) (same_Some c chunk h))) in
    let side : (x : ChunkId) → x ≢ chunk → (row_of_chunk after x).mark ≡ (row_of_chunk rows x).mark =
    λ x differs. mark-with_length between list count x ∙ (mark-other both chunk x (list_mark list) row-3 differs ∙ (mark-joined first list (Some chunk) b x row-2 field-3 ∙ mark-joined rows list a (Some chunk) x field row)) in
    relinked rows after lists list chunks is (sizes-with_length between list count ∙ sizes-3)
    (run-with_length between list list count None _ (run-with_mark both chunk (list_mark list) list _ row-3 (runs _ _ comes)))
    (λ other differs. run-with_length between list other count None _ (run-with_mark both chunk (list_mark list) other _ row-3
    (run-joined first list other (Some chunk) b (lists other) row-2 field-3 differs (out other) (near_outside rows lists list other b is differs near-2)
    (run-joined rows list other a (Some chunk) (lists other) field row differs (near_outside rows lists list other a is differs in_range) (out other) (is.runs other)))))
    (omega (arith, length-same between list count (IsList-sizes rows between list sizes-3 there), length-with_mark both chunk (list_mark list) list, length-joined first list list (Some chunk) b, length-joined rows list list a (Some chunk), is.long list, longer))
    (λ other differs. length-other between list other count differs ∙ (length-with_mark both chunk (list_mark list) other ∙ (length-joined first list other (Some chunk) b ∙ length-joined rows list other a (Some chunk))))
    (λ x. elim (cases_Bool (is_chunk chunk x)) [
      | inl same ↦ omega (arith, counts x, ap truth same, absent list, ap (λ (y : ChunkId). times_in y (lists list)) (same_from_is_chunk chunk x same))
      | inr other ↦ omega (arith, counts x, ap truth other, is.once list x)
    ])
    (λ x within. elim (cases_Bool (is_chunk chunk x)) [
      | inl same ↦ inr (subst (λ (y : ChunkId). ((other : ListName) → times_in y (lists other) ≡ 0) × IsRow rows y) (same_from_is_chunk chunk x same) (absent, row))
      | inr other ↦ inl (omega (arith, counts x, ap truth other, within))
    ])
    (λ x within. elim (cases_chunk x chunk) [
      | inl same ↦
          subst (λ (y : ChunkId). (row_of_chunk after y).mark ≡ list_mark list) (sym same) (mark-with_length between list count chunk ∙ mark-same both chunk (list_mark list) row-3)
      | inr differs ↦
          let before : 1 ≤ times_in x (lists list) = elim (cases_Bool (is_chunk chunk x)) [
            | inl same ↦ absurd (differs (sym (same_from_is_chunk chunk x same)))
            | inr other ↦ omega (arith, counts x, ap truth other, within)
          ] in
          side x differs ∙ is.sides list x before
    ])
    (λ other x _ within. side x (λ h. absurd (omega (arith, within, absent other, ap (λ (y : ChunkId). times_in y (lists other)) h))))
    (λ x _ marked. elim (cases_chunk x chunk) [
      | inl same ↦ (list, omega (arith, counts x, ap truth (subst (λ (y : ChunkId). is_chunk y x ≡ true) same (is_chunk-same x)), ap (times_in x) (with_list-same lists list chunks)))
      | inr differs ↦ still_listed lists list chunks x (λ here. omega (arith, counts x, here)) (is.listed x (λ h. differs (sym (same_Some chunk x h))) (λ h. marked (side x differs ∙ h)))
    ])

-- a chunk that is in no list is apart from their chunks
absent_outside : (chunk : ChunkId) (chunks : List ChunkId) → times_in chunk chunks ≡ 0 → IsOutside (Some chunk) chunks
absent_outside chunk chunks absent c within h = absurd (omega (arith, within, absent, ap (λ (x : ChunkId). times_in x chunks) (same_Some c chunk h)))

-- a chunk comes first
pub first_linked : (rows : RowsState) (lists : ListName → List ChunkId) (list : ListName) (chunk : ChunkId) → IsLinked rows lists (Some chunk) → IsList rows list → IsRow rows chunk → ((other : ListName) → times_in chunk (lists other) ≡ 0) → IsLinked (with_chunk_between rows list None chunk (field_of rows (Head list))) (with_list lists list (chunk ∷ lists list)) None
first_linked rows lists list chunk is there row absent =
    come_linked rows lists list None chunk (field_of rows (Head list)) (chunk ∷ lists list) is there row absent (inl refl) (head_in (forth_in rows list) (back_in rows list) None (lists list) (is.runs list))
    (λ n p comes. run_cons (forth_in rows list) (back_in rows list) n p None chunk (lists list) (λ c _. Some≢None c) (absent_outside chunk (lists list) (absent list)) (is.once list) comes (is.runs list))
    (λ x. omega (arith, times-cons x chunk (lists list)))
    (omega arith)

-- a chunk comes last
pub last_linked : (rows : RowsState) (lists : ListName → List ChunkId) (list : ListName) (chunk : ChunkId) → IsLinked rows lists (Some chunk) → IsList rows list → IsRow rows chunk → ((other : ListName) → times_in chunk (lists other) ≡ 0) → IsLinked (with_chunk_between rows list (field_of rows (Tail list)) chunk None) (with_list lists list (lists list ++ chunk ∷ [])) None
last_linked rows lists list chunk is there row absent =
    come_linked rows lists list (field_of rows (Tail list)) chunk None (lists list ++ chunk ∷ []) is there row absent (last_in (forth_in rows list) (back_in rows list) None (lists list) (is.runs list)) (inl refl)
    (λ n p comes. run_push (forth_in rows list) (back_in rows list) n p None (lists list) chunk (is.once list) (λ c _. Some≢None c) (absent_outside chunk (lists list) (absent list)) (None≢Some chunk) comes (is.runs list))
    (λ x. times-push x chunk (lists list))
    (length-append (lists list) (chunk ∷ []))

-- a chunk comes directly before another
pub before_linked : (rows : RowsState) (lists : ListName → List ChunkId) (list : ListName) (chunk old : ChunkId) → IsLinked rows lists (Some chunk) → IsList rows list → IsRow rows chunk → ((other : ListName) → times_in chunk (lists other) ≡ 0) → 1 ≤ times_in old (lists list) → IsLinked (with_chunk_between rows list (field_of rows (Previous old)) chunk (Some old)) (with_list lists list (with_before chunk old (lists list))) None
before_linked rows lists list chunk old is there row absent within =
    come_linked rows lists list (field_of rows (Previous old)) chunk (Some old) (with_before chunk old (lists list)) is there row absent (before_in (forth_in rows list) (back_in rows list) None (lists list) old (is.runs list) within) (inr (old, refl, within))
    (λ n p comes. run_before (forth_in rows list) (back_in rows list) n p None (lists list) chunk old within (is.once list) (λ c _. Some≢None c) (absent_outside chunk (lists list) (absent list)) (None≢Some chunk) comes (is.runs list))
    (λ x. times-with_before x chunk old (lists list) within)
    (length-with_before chunk old (lists list) within)

-- a loose chunk that is in no list is marked so
pub marked_linked : (rows : RowsState) (lists : ListName → List ChunkId) (chunk : ChunkId) → IsLinked rows lists (Some chunk) → IsRow rows chunk → ((list : ListName) → times_in chunk (lists list) ≡ 0) → IsLinked (with_mark rows chunk Unlisted) lists None
marked_linked rows lists chunk is row absent =
    let sizes = sizes-with_mark rows chunk Unlisted in
    let apart : (list : ListName) (x : ChunkId) → 1 ≤ times_in x (lists list) → x ≢ chunk = λ list x within h. omega (arith, within, absent list, ap (λ (y : ChunkId). times_in y (lists list)) h) in
    record {
      runs = λ list. run-with_mark rows chunk Unlisted list (lists list) row (is.runs list);
      long = λ list. length-with_mark rows chunk Unlisted list ∙ is.long list;
      once = is.once;
      apart = is.apart;
      sides = λ list x within. mark-other rows chunk x Unlisted row (apart list x within) ∙ is.sides list x within;
      listed = λ x _ some. elim (cases_chunk x chunk) [
        | inl same ↦ absurd (some (ap (λ (y : ChunkId). (row_of_chunk (with_mark rows chunk Unlisted) y).mark) same ∙ mark-same rows chunk Unlisted row))
        | inr differs ↦ is.listed x (λ h. differs (sym (same_Some chunk x h))) (λ h. some (mark-other rows chunk x Unlisted row differs ∙ h))
      ];
      placed = λ list x within. IsRow-sizes rows (with_mark rows chunk Unlisted) x sizes (is.placed list x within);
    }

-- rows that are lists are so where a chunk's mark isn't looked at
pub loosened : (rows : RowsState) (chunk : ChunkId) → AreLinked rows → AreLinkedBut rows chunk
loosened rows chunk is =
    record {
      runs = is.runs;
      long = is.long;
      once = is.once;
      apart = is.apart;
      sides = is.sides;
      listed = λ x _ some. is.listed x (None≢Some x) some;
      placed = is.placed;
    }

-- where a list goes on and back at its ends and at its chunks are fields
pub head_back : {loose : Option ChunkId} (rows : RowsState) (list : ListName) → IsLinked rows (list_chunks rows) loose → IsList rows list → IsField rows (back list (field_of rows (Head list)))
head_back rows list is there = near_back rows (list_chunks rows) list (field_of rows (Head list)) is there (head_in (forth_in rows list) (back_in rows list) None (list_chunks rows list) (is.runs list))

pub tail_forth : {loose : Option ChunkId} (rows : RowsState) (list : ListName) → IsLinked rows (list_chunks rows) loose → IsList rows list → IsField rows (forth list (field_of rows (Tail list)))
tail_forth rows list is there = near_forth rows (list_chunks rows) list (field_of rows (Tail list)) is there (last_in (forth_in rows list) (back_in rows list) None (list_chunks rows list) (is.runs list))

pub previous_forth : {loose : Option ChunkId} (rows : RowsState) (list : ListName) (chunk : ChunkId) → IsLinked rows (list_chunks rows) loose → IsList rows list → 1 ≤ times_in chunk (list_chunks rows list) → IsField rows (forth list (field_of rows (Previous chunk)))
previous_forth rows list chunk is there within = near_forth rows (list_chunks rows) list (field_of rows (Previous chunk)) is there (before_in (forth_in rows list) (back_in rows list) None (list_chunks rows list) chunk (is.runs list) within)

pub next_back : {loose : Option ChunkId} (rows : RowsState) (list : ListName) (chunk : ChunkId) → IsLinked rows (list_chunks rows) loose → IsList rows list → 1 ≤ times_in chunk (list_chunks rows list) → IsField rows (back list (field_of rows (Next chunk)))
next_back rows list chunk is there within = near_back rows (list_chunks rows) list (field_of rows (Next chunk)) is there (behind_in (forth_in rows list) (back_in rows list) None (list_chunks rows list) chunk (is.runs list) within)
