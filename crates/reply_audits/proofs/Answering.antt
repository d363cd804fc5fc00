-- What a reply tells as an answer to what a line asks for: of any protocol whose replies name their points.
use Rattle.std.proofs.Common.{◌≡◌, ℕ, ◌+◌, ◌<◌, ◌≤◌, ◌^◌, List, [], ◌∷◌, ◌++◌, Bool, true, false, Option, Some, None, Result, Ok, Err, inl, inr, cond, length, max, take, slice_get, refl, sym, ap, ◌∙◌, subst, arith}
use Rattle.std.specs.Prelude.{IsTrue, codes, decimal}
use Rattle.std.proofs.lemmas.Option.{slice_get_within}
use Rattle.line_words.specs.Lines.{Line as InputLine}
use Rattle.recorded_sessions.specs.Naming.{point_named}
use Rattle.recorded_sessions.specs.Places.{Says}
use Rattle.recorded_sessions.specs.Telling.{IsKnown}
use Rattle.recorded_sessions.specs.declared.telling.Told.{Told}
use Rattle.recorded_sessions.specs.declared.telling.Told.TheVariants as told
use Rattle.room_core.specs.declared.entry.Entry.{Entry}
use Rattle.room_core.specs.History.{most_entries}
use Rattle.station_sessions.specs.Transcript.{Answered, BearsNone, Protocol, Row, Do, See, Point, Write, News, Bad, Wish, answer_at, sight_at, state_at}
use Rattle.station_sessions.specs.Transcript.{IsDone, IsDocument, IsFull, IsNews, IsPastEnd, IsRefused}
use Rattle.reply_audits.specs.Naming.{NamesNone, NamesPoints}
use Rattle.reply_audits.proofs.Verdicts.{known_too, least_known, nothing_known, own_known, point_known, same_known, same_one}

done_or_refused : {D R A : Type 0} (d : D) (r : R) (o : Option (Result D R)) → o ≡ Some (Ok d) → o ≡ Some (Err r) → A
done_or_refused d r o is other = absurd (Prim.grind (arith, sym is ∙ other))

same_done : {D R : Type 0} (d e : D) (o : Option (Result D R)) → o ≡ Some (Ok d) → o ≡ Some (Ok e) → d ≡ e
same_done d e o is other = Prim.grind (arith, sym is ∙ other)

same_refusal : {D R : Type 0} (q r : R) (o : Option (Result D R)) → o ≡ Some (Err q) → o ≡ Some (Err r) → q ≡ r
same_refusal q r o is other = Prim.grind (arith, sym is ∙ other)

-- A reply to a line of this number, which names a point of the journal.
module _ {S C D R Q X Y : Type 0} (k : Protocol S C D R Q X Y) (names : NamesPoints k) (o : S) (h : List (Entry C)) (few : length h ≤ most_entries)
    (station number : ℕ) (reply : List ℕ) (n : ℕ) (named : point_named reply ≡ Some n) (within : n ≤ length h) where
  abbrev Answers : Wish C Q → ℕ → ℕ → List ℕ → Type 0
  Answers wish told after points = Answered k o h station number told reply after points wish

  small : (m : ℕ) → m ≤ length h → m < 2 ^ 32
  small m le = omega (arith, le, few)

  -- a text that the reply is names its point
  one_point : (m : ℕ) (text : List ℕ) → reply ≡ text → point_named text ≡ Some m → m ≡ n
  one_point m text is at = same_one m n (sym at ∙ (ap point_named (sym is) ∙ named))

  -- ---- of a call

  module _ (c : C) where
    done_there : (told after : ℕ) (points : List ℕ) (m : ℕ) (d : D) → IsDone k o h station number told reply after points c m d → m ≡ n
    done_there told after points m d is =
        one_point m (k.answer_text m (Ok d)) is.reply_is (names.answers m (Ok d) (small m (omega (arith, slice_get_within h m _ is.entry))))

    refused_there : (told after : ℕ) (points : List ℕ) (m : ℕ) (r : R) → IsRefused k o h station number told reply after points c m r → m ≡ n
    refused_there told after points m r is =
        one_point m (k.answer_text m (Err r)) is.reply_is (names.answers m (Err r) (small m is.within))

    full_there : (told after : ℕ) (points : List ℕ) (d : D) → IsFull k o h station number told reply after points c d → most_entries ≡ n
    full_there told after points d is = one_point most_entries k.full_text is.reply_is names.full

    at_point : (m : ℕ) (a : Result D R) → m ≡ n → answer_at k o h m c ≡ Some a → answer_at k o h n c ≡ Some a
    at_point m a at is = subst (λ i. answer_at k o h i c ≡ Some a) at is

    -- where the call applies at the point
    module _ (d : D) (answer : answer_at k o h n c ≡ Some (Ok d)) where
      same_text : (m : ℕ) (e : D) → m ≡ n → answer_at k o h m c ≡ Some (Ok e) → reply ≡ k.answer_text m (Ok e) → reply ≡ k.answer_text n (Ok d)
      same_text m e at is text =
          let one : e ≡ d = same_done e d (answer_at k o h n c) (at_point m (Ok e) at is) answer in
          text ∙ (ap (λ i. k.answer_text i (Ok e)) at ∙ ap (λ x. k.answer_text n (Ok x)) one)

      not_refused : {A : Type 0} (told after : ℕ) (points : List ℕ) (m : ℕ) (r : R) → IsRefused k o h station number told reply after points c m r → A
      not_refused told after points m r is =
          done_or_refused d r (answer_at k o h n c) answer (at_point m (Err r) (refused_there told after points m r is) is.answer)

      -- and the entry there is the line's
      module _ (own : slice_get h n ≡ Some (record { station = station; number = number; call = c })) where
        not_full : {A : Type 0} (told after : ℕ) (points : List ℕ) (e : D) → IsFull k o h station number told reply after points c e → A
        not_full told after points e is =
            absurd (omega (arith, slice_get_within h n _ own, is.full, full_there told after points e is))

        pub own_told : (t : Bool) → Says t (reply ≡ k.answer_text n (Ok d)) → IsKnown (Answers (Do c)) (cond t (told.Own n) told.Nothing)
        own_told true text = own_known (Answers (Do c)) n
            (λ told less. inl (
              n,
              d,
              record { told_of = less; entry = own; answer = answer; reply_is = text; after_is = refl; points_are = refl },
            ))
            (λ told after points a. only told after points a)
          where
            only : (told after : ℕ) (points : List ℕ) → Answers (Do c) told after points → (told ≤ n) × (after ≡ n + 1) × (points ≡ n ∷ [])
            only told after points (inl a) =
                let at = done_there told after points a.0 a.1 a.2 in
                (subst (λ i. told ≤ i) at a.2.told_of, a.2.after_is ∙ ap (λ i. i + 1) at, a.2.points_are ∙ ap (λ i. i ∷ []) at)
            only told after points (inr (inl a)) = not_refused told after points a.0 a.1 a.2
            only told after points (inr (inr a)) = not_full told after points a.0 a.1
        own_told false other = nothing_known (Answers (Do c)) none where
          none : (told after : ℕ) (points : List ℕ) → Answers (Do c) told after points → ⊥
          none told after points (inl a) = other (same_text a.0 a.1 (done_there told after points a.0 a.1 a.2) a.2.answer a.2.reply_is)
          none told after points (inr (inl a)) = not_refused told after points a.0 a.1 a.2
          none told after points (inr (inr a)) = not_full told after points a.0 a.1

      -- and it is not
      module _ (other : slice_get h n ≡ Some (record { station = station; number = number; call = c }) → ⊥) where
        not_done : {A : Type 0} (told after : ℕ) (points : List ℕ) (m : ℕ) (e : D) → IsDone k o h station number told reply after points c m e → A
        not_done told after points m e is =
            absurd (other (subst (λ i. slice_get h i ≡ Some (record { station = station; number = number; call = c })) (done_there told after points m e is) is.entry))

        pub full_told : (t : Bool) → Says t (((length h ≡ most_entries) × (n ≡ most_entries)) × (reply ≡ k.full_text))
            → IsKnown (Answers (Do c)) (cond t (told.Point n) told.Nothing)
        full_told true is = point_known (Answers (Do c)) n
            (λ told less. inr (inr (
              d,
              record {
                told_of = omega (arith, less, is.0.1);
                full = is.0.0;
                answer = subst (λ i. answer_at k o h i c ≡ Some (Ok d)) is.0.1 answer;
                reply_is = is.1;
                after_is = is.0.1;
                points_are = refl;
              },
            )))
            (λ told after points a. only told after points a)
          where
            only : (told after : ℕ) (points : List ℕ) → Answers (Do c) told after points → (told ≤ n) × (after ≡ n) × (points ≡ [])
            only told after points (inl a) = not_done told after points a.0 a.1 a.2
            only told after points (inr (inl a)) = not_refused told after points a.0 a.1 a.2
            only told after points (inr (inr a)) = (omega (arith, is.0.1, a.1.told_of), a.1.after_is ∙ sym is.0.1, a.1.points_are)
        full_told false not = nothing_known (Answers (Do c)) none where
          none : (told after : ℕ) (points : List ℕ) → Answers (Do c) told after points → ⊥
          none told after points (inl a) = not_done told after points a.0 a.1 a.2
          none told after points (inr (inl a)) = not_refused told after points a.0 a.1 a.2
          none told after points (inr (inr a)) = not ((a.1.full, sym (full_there told after points a.0 a.1)), a.1.reply_is)

    -- where it is refused there
    module _ (r : R) (answer : answer_at k o h n c ≡ Some (Err r)) where
      is_refused : {A : Type 0} (m : ℕ) (e : D) → m ≡ n → answer_at k o h m c ≡ Some (Ok e) → A
      is_refused m e at is = done_or_refused e r (answer_at k o h n c) (at_point m (Ok e) at is) answer

      same_refused : (m : ℕ) (q : R) → m ≡ n → answer_at k o h m c ≡ Some (Err q) → reply ≡ k.answer_text m (Err q) → reply ≡ k.answer_text n (Err r)
      same_refused m q at is text =
          let one : q ≡ r = same_refusal q r (answer_at k o h n c) (at_point m (Err q) at is) answer in
          text ∙ (ap (λ i. k.answer_text i (Err q)) at ∙ ap (λ x. k.answer_text n (Err x)) one)

      pub refused_told : (t : Bool) → Says t (reply ≡ k.answer_text n (Err r)) → IsKnown (Answers (Do c)) (cond t (told.Point n) told.Nothing)
      refused_told true text = point_known (Answers (Do c)) n
          (λ told less. inr (inl (
            n,
            r,
            record { told_of = less; within = within; answer = answer; reply_is = text; after_is = refl; points_are = refl },
          )))
          (λ told after points a. only told after points a)
        where
          only : (told after : ℕ) (points : List ℕ) → Answers (Do c) told after points → (told ≤ n) × (after ≡ n) × (points ≡ [])
          only told after points (inl a) = is_refused a.0 a.1 (done_there told after points a.0 a.1 a.2) a.2.answer
          only told after points (inr (inl a)) =
              let at = refused_there told after points a.0 a.1 a.2 in
              (subst (λ i. told ≤ i) at a.2.told_of, a.2.after_is ∙ at, a.2.points_are)
          only told after points (inr (inr a)) = is_refused most_entries a.0 (full_there told after points a.0 a.1) a.1.answer
      refused_told false other = nothing_known (Answers (Do c)) none where
        none : (told after : ℕ) (points : List ℕ) → Answers (Do c) told after points → ⊥
        none told after points (inl a) = is_refused a.0 a.1 (done_there told after points a.0 a.1 a.2) a.2.answer
        none told after points (inr (inl a)) = other (same_refused a.0 a.1 (refused_there told after points a.0 a.1 a.2) a.2.answer a.2.reply_is)
        none told after points (inr (inr a)) = is_refused most_entries a.0 (full_there told after points a.0 a.1) a.1.answer

  -- ---- of a question

  module _ (q : Q) (s : Result X Y) (sight : sight_at k o h n q ≡ Some s) where
    seen_there : (told after : ℕ) (points : List ℕ) → Answers (See q) told after points
        → (told ≤ n) × (after ≡ n) × (points ≡ []) × (reply ≡ k.sight_text n s)
    seen_there told after points a =
        let at = one_point a.0 (k.sight_text a.0 a.1) a.2.reply_is (names.sights a.0 a.1 (small a.0 a.2.within)) in
        let one : a.1 ≡ s = same_one a.1 s (sym (subst (λ i. sight_at k o h i q ≡ Some a.1) at a.2.sight) ∙ sight) in (
          subst (λ i. told ≤ i) at a.2.told_of,
          a.2.after_is ∙ at,
          a.2.points_are,
          a.2.reply_is ∙ (ap (λ i. k.sight_text i a.1) at ∙ ap (k.sight_text n) one),
        )

    pub seen_told : (t : Bool) → Says t (reply ≡ k.sight_text n s) → IsKnown (Answers (See q)) (cond t (told.Point n) told.Nothing)
    seen_told true text = point_known (Answers (See q)) n
        (λ told less. (
          n,
          s,
          record { told_of = less; within = within; sight = sight; reply_is = text; after_is = refl; points_are = refl },
        ))
        (λ told after points a. let w = seen_there told after points a in (w.0, w.1, w.2))
    seen_told false other = nothing_known (Answers (See q)) (λ told after points a. other (seen_there told after points a).3)

  -- ---- of the point

  point_there : (told after : ℕ) (points : List ℕ) → Answers Point told after points
      → (told ≤ n) × (after ≡ n) × (points ≡ []) × (reply ≡ codes "point " ++ decimal n)
  point_there told after points a =
      let at = one_point a.0 (codes "point " ++ decimal a.0) a.1.reply_is (names.points a.0 (small a.0 a.1.within)) in (
        subst (λ i. told ≤ i) at a.1.told_of,
        a.1.after_is ∙ at,
        a.1.points_are,
        a.1.reply_is ∙ ap (λ i. codes "point " ++ decimal i) at,
      )

  pub point_told : (t : Bool) → Says t (reply ≡ codes "point " ++ decimal n) → IsKnown (Answers Point) (cond t (told.Point n) told.Nothing)
  point_told true text = point_known (Answers Point) n
      (λ told less. (n, record { told_of = less; within = within; reply_is = text; after_is = refl; points_are = refl }))
      (λ told after points a. let w = point_there told after points a in (w.0, w.1, w.2))
  point_told false other = nothing_known (Answers Point) (λ told after points a. other (point_there told after points a).3)

  -- ---- where there are fewer entries than were asked for

  past_there : (asked at told after : ℕ) (points : List ℕ) → IsPastEnd k o h station number told reply after points asked at → at ≡ n
  past_there asked at told after points is = one_point at (k.no_point_text at) is.reply_is (names.past_ends at (small at is.within))

  past_only : (asked told after : ℕ) (points : List ℕ) → (at : ℕ) × IsPastEnd k o h station number told reply after points asked at
      → (told ≤ n) × (after ≡ n) × (points ≡ []) × (reply ≡ k.no_point_text n) × (n < asked)
  past_only asked told after points a =
      let at = past_there asked a.0 told after points a.1 in (
        subst (λ i. told ≤ i) at a.1.told_of,
        a.1.after_is ∙ at,
        a.1.points_are,
        a.1.reply_is ∙ ap k.no_point_text at,
        omega (arith, at, a.1.past),
      )

  past_right : (asked : ℕ) → n < asked → reply ≡ k.no_point_text n → (told : ℕ) → told ≤ n
      → IsPastEnd k o h station number told reply n [] asked n
  past_right asked past text told less =
      record { told_of = less; within = within; past = past; reply_is = text; after_is = refl; points_are = refl }

  -- ---- of the document of a point

  document_there : (asked told after : ℕ) (points : List ℕ) (s : S) → IsDocument k o h station number told reply after points asked s → asked ≡ n
  document_there asked told after points s is =
      one_point asked (k.document_text asked s) is.reply_is (names.documents asked s (small asked is.within))

  pub past_document_told : (asked : ℕ) → n < asked → (t : Bool) → Says t (reply ≡ k.no_point_text n)
      → IsKnown (Answers (Write asked)) (cond t (told.Point n) told.Nothing)
  past_document_told asked past true text = point_known (Answers (Write asked)) n
      (λ told less. inr (n, past_right asked past text told less))
      (λ told after points a. only told after points a)
    where
      only : (told after : ℕ) (points : List ℕ) → Answers (Write asked) told after points → (told ≤ n) × (after ≡ n) × (points ≡ [])
      only told after points (inl a) = absurd (omega (arith, past, document_there asked told after points a.0 a.1))
      only told after points (inr a) = let w = past_only asked told after points a in (w.0, w.1, w.2)
  past_document_told asked past false other = nothing_known (Answers (Write asked)) none where
    none : (told after : ℕ) (points : List ℕ) → Answers (Write asked) told after points → ⊥
    none told after points (inl a) = omega (arith, past, document_there asked told after points a.0 a.1)
    none told after points (inr a) = other (past_only asked told after points a).3

  pub no_document_told : (asked : ℕ) → asked < n → IsKnown (Answers (Write asked)) told.Nothing
  no_document_told asked before = nothing_known (Answers (Write asked)) none where
    none : (told after : ℕ) (points : List ℕ) → Answers (Write asked) told after points → ⊥
    none told after points (inl a) = omega (arith, before, document_there asked told after points a.0 a.1)
    none told after points (inr a) = omega (arith, before, (past_only asked told after points a).4)

  module _ (asked : ℕ) (is_asked : asked ≡ n) (s : S) (state : state_at k o h n ≡ Some s) where
    document_only : (told after : ℕ) (points : List ℕ) → Answers (Write asked) told after points
        → (after ≡ max told n) × (points ≡ []) × (reply ≡ k.document_text n s)
    document_only told after points (inl a) =
        let one : a.0 ≡ s = same_one a.0 s (sym (subst (λ i. state_at k o h i ≡ Some a.0) is_asked a.1.state) ∙ state) in (
          a.1.after_is ∙ ap (max told) is_asked,
          a.1.points_are,
          a.1.reply_is ∙ (ap (λ i. k.document_text i a.0) is_asked ∙ ap (k.document_text n) one),
        )
    document_only told after points (inr a) = absurd (omega (arith, is_asked, (past_only asked told after points a).4))

    pub document_told : (t : Bool) → Says t (reply ≡ k.document_text n s) → IsKnown (Answers (Write asked)) (cond t (told.Least n) told.Nothing)
    document_told true text = least_known (Answers (Write asked)) n
        (λ told. inl (
          s,
          record {
            within = omega (arith, within, is_asked);
            state = subst (λ i. state_at k o h i ≡ Some s) (sym is_asked) state;
            reply_is = text ∙ ap (λ i. k.document_text i s) (sym is_asked);
            after_is = ap (max told) (sym is_asked);
            points_are = refl;
          },
        ))
        (λ told after points a. let w = document_only told after points a in (w.0, w.1))
    document_told false other = nothing_known (Answers (Write asked)) (λ told after points a. other (document_only told after points a).2)

  -- ---- of the entry at a place

  news_there : (place told after : ℕ) (points : List ℕ) (m : ℕ) → IsNews k o h station number told reply after points place m → m ≡ n
  news_there place told after points m is =
      one_point m (k.news_text place m (slice_get (take m h) place)) is.reply_is
      (names.news place m (slice_get (take m h) place) (small place (omega (arith, is.place_within, is.within))) (small m is.within))

  pub past_news_told : (place : ℕ) → n < place → (t : Bool) → Says t (reply ≡ k.no_point_text n)
      → IsKnown (Answers (News place)) (cond t (told.Point n) told.Nothing)
  past_news_told place past true text = point_known (Answers (News place)) n
      (λ told less. inr (n, past_right place past text told less))
      (λ told after points a. only told after points a)
    where
      only : (told after : ℕ) (points : List ℕ) → Answers (News place) told after points → (told ≤ n) × (after ≡ n) × (points ≡ [])
      only told after points (inl a) = absurd (omega (arith, past, a.1.place_within, news_there place told after points a.0 a.1))
      only told after points (inr a) = let w = past_only place told after points a in (w.0, w.1, w.2)
  past_news_told place past false other = nothing_known (Answers (News place)) none where
    none : (told after : ℕ) (points : List ℕ) → Answers (News place) told after points → ⊥
    none told after points (inl a) = omega (arith, past, a.1.place_within, news_there place told after points a.0 a.1)
    none told after points (inr a) = other (past_only place told after points a).3

  module _ (place : ℕ) (place_within : place ≤ n) where
    news_only : (told after : ℕ) (points : List ℕ) → Answers (News place) told after points
        → (told ≤ n) × (after ≡ n) × (points ≡ []) × (reply ≡ k.news_text place n (slice_get (take n h) place))
    news_only told after points (inl a) =
        let at = news_there place told after points a.0 a.1 in (
          subst (λ i. told ≤ i) at a.1.told_of,
          a.1.after_is ∙ at,
          a.1.points_are,
          a.1.reply_is ∙ ap (λ i. k.news_text place i (slice_get (take i h) place)) at,
        )
    news_only told after points (inr a) = absurd (omega (arith, place_within, (past_only place told after points a).4))

    pub news_told : (t : Bool) → Says t (reply ≡ k.news_text place n (slice_get (take n h) place))
        → IsKnown (Answers (News place)) (cond t (told.Point n) told.Nothing)
    news_told true text = point_known (Answers (News place)) n
        (λ told less. inl (
          n,
          record { told_of = less; within = within; place_within = place_within; reply_is = text; after_is = refl; points_are = refl },
        ))
        (λ told after points a. let w = news_only told after points a in (w.0, w.1, w.2))
    news_told false other = nothing_known (Answers (News place)) (λ told after points a. other (news_only told after points a).3)

-- A reply that names no point of the journal.
module _ {S C D R Q X Y : Type 0} (k : Protocol S C D R Q X Y) (names : NamesPoints k) (o : S) (h : List (Entry C)) (few : length h ≤ most_entries)
    (station number : ℕ) (reply : List ℕ) (none : NamesNone h reply) where
  past : {A : Type 0} (m : ℕ) (text : List ℕ) → reply ≡ text → point_named text ≡ Some m → m ≤ length h → A
  past m text is at le = absurd (omega (arith, none m (ap point_named is ∙ at), le))

  bound_of : (m : ℕ) → m ≤ length h → m < 2 ^ 32
  bound_of m le = omega (arith, le, few)

  past_end : {A : Type 0} (asked told after : ℕ) (points : List ℕ) → (at : ℕ) × IsPastEnd k o h station number told reply after points asked at → A
  past_end asked told after points a = past a.0 (k.no_point_text a.0) a.1.reply_is (names.past_ends a.0 (bound_of a.0 a.1.within)) a.1.within

  -- it is an answer to no wish of the protocol
  unanswered : {A : Type 0} (wish : Wish C Q) (told after : ℕ) (points : List ℕ) → ((text : List ℕ) → wish ≡ Bad text → ⊥)
      → Answered k o h station number told reply after points wish → A
  unanswered (Do c) told after points other (inl a) =
      let le : a.0 ≤ length h = omega (arith, slice_get_within h a.0 _ a.2.entry) in
      past a.0 (k.answer_text a.0 (Ok a.1)) a.2.reply_is (names.answers a.0 (Ok a.1) (bound_of a.0 le)) le
  unanswered (Do c) told after points other (inr (inl a)) =
      past a.0 (k.answer_text a.0 (Err a.1)) a.2.reply_is (names.answers a.0 (Err a.1) (bound_of a.0 a.2.within)) a.2.within
  unanswered (Do c) told after points other (inr (inr a)) = past most_entries k.full_text a.1.reply_is names.full (omega (arith, a.1.full))
  unanswered (See q) told after points other a =
      past a.0 (k.sight_text a.0 a.1) a.2.reply_is (names.sights a.0 a.1 (bound_of a.0 a.2.within)) a.2.within
  unanswered Point told after points other a =
      past a.0 (codes "point " ++ decimal a.0) a.1.reply_is (names.points a.0 (bound_of a.0 a.1.within)) a.1.within
  unanswered (Write asked) told after points other (inl a) =
      past asked (k.document_text asked a.0) a.1.reply_is (names.documents asked a.0 (bound_of asked a.1.within)) a.1.within
  unanswered (Write asked) told after points other (inr a) = past_end asked told after points a
  unanswered (News place) told after points other (inl a) =
      past a.0 (k.news_text place a.0 (slice_get (take a.0 h) place)) a.1.reply_is
      (names.news place a.0 (slice_get (take a.0 h) place) (bound_of place (omega (arith, a.1.place_within, a.1.within))) (bound_of a.0 a.1.within))
      a.1.within
  unanswered (News place) told after points other (inr a) = past_end place told after points a
  unanswered (Bad text) told after points other a = absurd (other text refl)

  pub none_told : (wish : Wish C Q) → ((text : List ℕ) → wish ≡ Bad text → ⊥)
      → IsKnown (λ told after points. Answered k o h station number told reply after points wish) told.Nothing
  none_told wish other = nothing_known _ (λ told after points a. unanswered wish told after points other a)

-- A reply to any line.
module _ {S C D R Q X Y : Type 0} (k : Protocol S C D R Q X Y) (o : S) (h : List (Entry C)) (station number : ℕ) (reply : List ℕ) where
  pub bad_told : (text : List ℕ) (t : Bool) → Says t (reply ≡ text)
      → IsKnown (λ told after points. Answered k o h station number told reply after points (Bad text)) (cond t told.Same told.Nothing)
  bad_told text true is = same_known _ (λ told. record { reply_is = is; after_is = refl; points_are = refl }) (λ told after points a. (a.after_is, a.points_are))
  bad_told text false other = nothing_known _ (λ told after points a. other a.reply_is)

-- A line that may find no memory, and its reply.
module _ {S C D R Q X Y : Type 0} (k : Protocol S C D R Q X Y) (names : NamesPoints k) (o : S) (h : List (Entry C)) (few : length h ≤ most_entries)
    (station number : ℕ) (reply : List ℕ) (line : InputLine) where
  abbrev Rows : ℕ → ℕ → List ℕ → Type 0
  Rows told after points = Row k o h station number told reply after points line

  memory_names_none : reply ≡ codes "memory" → NamesNone h reply
  memory_names_none is n at = absurd (clash n (sym (ap point_named is) ∙ at)) where
    clash : (n : ℕ) → None ≡ Some n → ⊥
    clash n e = Prim.grind (arith, e)

  silent : (wish : Wish C Q) (told after : ℕ) (points : List ℕ) → NamesNone h reply → Answered k o h station number told reply after points wish
      → (after ≡ told) × (points ≡ [])
  silent (Do c) told after points none a = unanswered k names o h few station number reply none (Do c) told after points (λ text e. Prim.grind (arith, e)) a
  silent (See q) told after points none a = unanswered k names o h few station number reply none (See q) told after points (λ text e. Prim.grind (arith, e)) a
  silent Point told after points none a = unanswered k names o h few station number reply none Point told after points (λ text e. Prim.grind (arith, e)) a
  silent (Write n) told after points none a = unanswered k names o h few station number reply none (Write n) told after points (λ text e. Prim.grind (arith, e)) a
  silent (News n) told after points none a = unanswered k names o h few station number reply none (News n) told after points (λ text e. Prim.grind (arith, e)) a
  silent (Bad text) told after points none a = (a.after_is, a.points_are)

  -- the reply says that there was no memory
  pub memory_told : reply ≡ codes "memory" → IsTrue (k.takes_memory line) → BearsNone h station number → IsKnown Rows told.Same
  memory_told is takes free = same_known Rows
      (λ told. inr (takes, record { none = free; reply_is = is; after_is = refl; points_are = refl }))
      (λ told after points row. only told after points row)
    where
      only : (told after : ℕ) (points : List ℕ) → Rows told after points → (after ≡ told) × (points ≡ [])
      only told after points (inl a) = silent (k.wish station line) told after points (memory_names_none is) a
      only told after points (inr m) = (m.1.after_is, m.1.points_are)

  -- it does not, or says so wrongly: then it is an answer
  pub answer_told : ((reply ≡ codes "memory") × IsTrue (k.takes_memory line) × BearsNone h station number → ⊥) → (t : Told)
      → IsKnown (λ told after points. Answered k o h station number told reply after points (k.wish station line)) t → IsKnown Rows t
  answer_told not t known = known_too (λ told after points. Answered k o h station number told reply after points (k.wish station line)) Rows t
      (λ told after points a. inl a) (λ told after points row. back told after points row) known
    where
      back : (told after : ℕ) (points : List ℕ) → Rows told after points → Answered k o h station number told reply after points (k.wish station line)
      back told after points (inl a) = a
      back told after points (inr m) = absurd (not (m.1.reply_is, m.0, m.1.none))
