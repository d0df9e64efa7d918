-- Each step keeps the rule.
use Rattle.std.proofs.Common.{◌≡◌, ℕ, zero, suc, ◌≢◌, List, [], ◌∷◌, ◌++◌, set, fold, refl, ap, sym, ◌∙◌, subst, ⊎_elim, Option, Some, None, Result, Ok, Err, MatchResult, OnOk, OnErr}
use Rattle.std.proofs.lemmas.List.Sums.{fold-append}
use mathlib.Core.Option.{some, some-injective, some-ne-none}
use mathlib.Core.List.{IsPrefix}
use lib.ListN.{get_elem?}
use Rattle.atomic_table.proofs.Lists.{at_set, at_snoc, set_again}
use Rattle.logbook.specs.Pages.{Book}
use Rattle.crossbeam_utils.specs.Register.{Admits, TurnsAt, Forks, Merges}
use Rattle.rules.specs.declared.delta.Delta.{Delta}
use Rattle.rules.specs.World.{World}
use Rattle.rules.specs.Delta.{applied}
use Rattle.rules.specs.Linked.{IsLinkedDelta}
use Rattle.query.specs.declared.shown.Shown.{Shown}
use Rattle.query.specs.declared.shown.Entry.{Entry}
use Rattle.query.specs.declared.shown.Operation.{Operation}
use Rattle.query.specs.declared.shown.Operation.TheVariants.{Room, Block}
use Rattle.policy.specs.Policies.{Policies}
use Rattle.world.specs.Applied.{AreBehind, applied_with}
use Rattle.world.specs.declared.room.Room as room
use Rattle.query.specs.declared.shown.Told.{Told}
use Rattle.query.specs.Published.{Beginning, GoesOn, applied_all, AreLinkedDeltas}
use Rattle.query.specs.Rule.{View, Fits, IsRuled, Finds, Sees, Begins, Takes, IsTold, IsShown, ChangeNothing, absorbed, base_of}

-- ---- chains

pub linked-snoc : (w : World) (ds : List Delta) (d : Delta) → AreLinkedDeltas w ds → IsLinkedDelta (applied_all w ds) d → AreLinkedDeltas w (ds ++ d ∷ [])
linked-snoc w [] d all last = (last, tt)
linked-snoc w (x ∷ xs) d all last = (all.0, linked-snoc (applied w x) xs d all.1 last)

pub applied_all-snoc : (w : World) (ds : List Delta) (d : Delta) → applied_all w (ds ++ d ∷ []) ≡ applied (applied_all w ds) d
applied_all-snoc w ds d = fold-append applied w ds (d ∷ [])

-- ---- seats that come, look and tell

abbrev Seats : Type 0
Seats = List View

-- a view of its own, at its place in the list of views
module _ (x : Shown) (views : Seats) (h : IsRuled x views) where
  -- what each seat of another list was told fits, if it fits at the seats of this one
  abbrev kept : (more : Seats) → ((seat : ℕ) (told : Told) → get_elem? more seat ≡ some (Some told) → Fits x h.base told) → IsRuled x more
  kept more fits = record { base = h.base; world = h.world; linked = h.linked; fits = fits }

  finds : (seat : ℕ) (v : View) → get_elem? views seat ≡ some v → (told : Told) → v ≡ Some told → Finds told x
  finds seat v at told is =
      let f : Fits x h.base told = h.fits seat told (subst (λ (u : View). get_elem? views seat ≡ some u) is at) in record {
        book = sym f.same_book;
        world = subst (λ (w : World). x.world ≡ applied_all w x.front.list) (sym f.same_base) h.world;
        linked = subst (λ (w : World). AreLinkedDeltas w x.front.list) (sym f.same_base) h.linked;
      }

  -- a seat is given a view that fits, where it is one
  abbrev with_view : (seat : ℕ) (v : View) → ((told : Told) → v ≡ Some told → Fits x h.base told) → IsRuled x (set views seat v)
  with_view seat v fits = kept (set views seat v) (λ j told at. ⊎_elim
      (λ (e : (j ≡ seat) × (v ≡ Some told)). fits told e.1)
      (λ (e : (j ≢ seat) × (get_elem? views j ≡ some (Some told))). h.fits j told e.1) (at_set views seat j v (Some told) at))

  -- a seat comes with a view that fits
  abbrev and_view : (v : View) → ((told : Told) → v ≡ Some told → Fits x h.base told) → IsRuled x (views ++ v ∷ [])
  and_view v fits = kept (views ++ v ∷ []) (λ j told at. ⊎_elim
      (λ (e : get_elem? views j ≡ some (Some told)). h.fits j told e) (fits told) (at_snoc views v (Some told) j at))

  -- what a seat has fits
  fits_at : (seat : ℕ) (v : View) → get_elem? views seat ≡ some v → (told : Told) → v ≡ Some told → Fits x h.base told
  fits_at seat v at told is = h.fits seat told (subst (λ (u : View). get_elem? views seat ≡ some u) is at)

none_fits : (x : Shown) (base : World) (told : Told) → ◌≡◌ {A = View} None (Some told) → Fits x base told
none_fits x base told is = absurd (cc is)

pub admits : Admits IsRuled None
admits x views h = and_view x views h None (none_fits x h.base)

pub sees : (seat : ℕ) (v : View) (x : Shown) → TurnsAt IsRuled seat v x x Sees
sees seat v x views h at = (v, subst (λ (us : Seats). IsRuled x us) (sym (set_again views seat v at)) h, (refl, finds x views h seat v at))

pub forks : (seat : ℕ) (v : View) → Forks IsRuled seat v v v
forks seat v x views h at =
    let fits = fits_at x views h seat v at in
    let ruled = with_view x views h seat v fits in and_view x (set views seat v) ruled v fits

pub merges : (seat : ℕ) (v : View) (other : ℕ) (w : View) → Merges IsRuled seat v other w w None
merges seat v other w x views h at apart there =
    let found : get_elem? views other ≡ some w = ⊎_elim
    (λ (e : (other ≡ seat) × (w ≡ w)). absurd (apart e.0))
    (λ (e : (other ≢ seat) × (get_elem? views other ≡ some w)). e.1) (at_set views seat other w w there) in
    let ruled = with_view x views h seat w (fits_at x views h other w found) in
    with_view x (set views seat w) ruled other None (none_fits x ruled.base)

-- ---- the writer's steps

-- one delta more is shown
publishes : (seat : ℕ) (v : View) (x y : Shown) (d : Delta)
    → y.world ≡ applied x.world d → y.front.list ≡ x.front.list ++ d ∷ [] → y.front.book ≡ x.front.book → IsLinkedDelta x.world d
    → TurnsAt IsRuled seat v x y Sees
publishes seat v x y d world list book is_linked views h at =
    let last : IsLinkedDelta (applied_all h.base x.front.list) d = subst (λ (w : World). IsLinkedDelta w d) h.world is_linked in
    let ruled : IsRuled y views = record {
      base = h.base;
      world = world ∙ (ap (λ w. applied w d) h.world ∙ (sym (applied_all-snoc h.base x.front.list d) ∙ ap (applied_all h.base) (sym list)));
      linked = subst (λ (ds : List Delta). AreLinkedDeltas h.base ds) (sym list) (linked-snoc h.base x.front.list d h.linked last);
      fits = λ j told e. let f : Fits x h.base told = h.fits j told e in record { same_base = f.same_base; same_book = f.same_book ∙ sym book };
    } in
    (v, subst (λ (us : Seats). IsRuled y us) (sym (set_again views seat v at)) ruled, (refl, finds y views ruled seat v at))

-- ---- operations that nobody sees

pub none_change_nothing : (none : List Operation) → none ≡ [] → ChangeNothing none
none_change_nothing none empty = record { same = λ x. ap (fold absorbed x) empty }

-- room too, behind others
pub room_changes_nothing : (none pending : List Operation) (r : room.Room) → ChangeNothing none → pending ≡ none ++ Room r ∷ [] → ChangeNothing pending
room_changes_nothing none pending r nothing one = record { same = λ x. ap (fold absorbed x) one ∙ (fold-append absorbed x none (Room r ∷ []) ∙ nothing.same x) }

-- a block behind others
one_block : (x : Shown) (e : Entry) (none pending : List Operation) → ChangeNothing none → pending ≡ none ++ Block e ∷ [] → fold absorbed x pending ≡ absorbed x (Block e)
one_block x e none pending nothing one =
    ap (fold absorbed x) one ∙ (fold-append absorbed x none (Block e ∷ []) ∙ ap (λ s. absorbed s (Block e)) (nothing.same x))

-- a delta with the policies behind it
applied_as : (w : World) (d : Delta) (made : Option Policies) → AreBehind w d made → applied_with w d made ≡ applied w d
applied_as w d made are_behind = ap (λ m. record (applied w d) { definitions = m }) are_behind

-- The writer's log has, behind what was shown, this entry and else what nobody sees.
pub shows : (seat : ℕ) (v : View) (before x y : Shown) (e : Entry) (none pending : List Operation)
    → x ≡ before → ChangeNothing none → pending ≡ none ++ Block e ∷ []
    → IsLinkedDelta before.world e.delta → AreBehind before.world e.delta e.definitions
    → e.front.list ≡ before.front.list ++ e.delta ∷ [] → e.front.book ≡ before.front.book
    → y ≡ fold absorbed x pending → TurnsAt IsRuled seat v x y Sees
shows seat v before x y e none pending same nothing one is_linked are_behind list book is =
    let y_is : y ≡ absorbed x (Block e) = is ∙ one_block x e none pending nothing one in
    publishes seat v x y e.delta
    (ap (λ s. s.world) y_is ∙ applied_as x.world e.delta e.definitions (subst (λ (s : Shown). AreBehind s.world e.delta e.definitions) (sym same) are_behind))
    (ap (λ s. s.front.list) y_is ∙ (list ∙ sym (ap (λ s. s.front.list ++ e.delta ∷ []) same)))
    (ap (λ s. s.front.book) y_is ∙ (book ∙ sym (ap (λ s. s.front.book) same)))
    (subst (λ (s : Shown). IsLinkedDelta s.world e.delta) (sym same) is_linked)

-- nothing more is shown
pub shows_again : (seat : ℕ) (v : View) (x y : Shown) (none : List Operation) → ChangeNothing none → y ≡ fold absorbed x none → TurnsAt IsRuled seat v x y Sees
shows_again seat v x y none nothing is = subst (λ (s : Shown). TurnsAt IsRuled seat v x s Sees) (sym (is ∙ nothing.same x)) (sees seat v x)

-- whether it was shown or not, the seat stays
pub stays : {A E : Type 0} (r : Result A E) (v w : View) (x y : Shown) → MatchResult r (λ _. Sees v x y w) (λ _. w ≡ v) → w ≡ v
stays (Ok a) v w x y seen = seen.0
stays (Err e) v w x y same = same

-- what a publish leaves behind: y is shown, and these operations are left
module _ {A E : Type 0} (x y : Shown) (pending left : List Operation) where
  abbrev Published : Result A E → Type 0
  Published r = MatchResult r (λ _. (y ≡ fold absorbed x pending) × (left ≡ [])) (λ _. (y ≡ x) × (left ≡ pending))

  pub shows_more : (before : Shown) (e : Entry) (none : List Operation) (r : Result A E) → Published r → x ≡ before → ChangeNothing none
      → pending ≡ none ++ Block e ∷ [] → OnOk r (y ≡ absorbed before (Block e))
  shows_more before e none (Ok a) done same nothing one = done.0 ∙ (one_block x e none pending nothing one ∙ ap (λ s. absorbed s (Block e)) same)
  shows_more before e none (Err f) kept same nothing one = tt

  pub shows_same : (before : Shown) (r : Result A E) → Published r → x ≡ before → OnErr r (y ≡ before)
  shows_same before (Ok a) done same = tt
  shows_same before (Err f) kept same = kept.0 ∙ same

  pub leaves_none : (r : Result A E) → Published r → OnOk r (ChangeNothing left)
  leaves_none (Ok a) done = none_change_nothing left done.1
  leaves_none (Err f) kept = tt

  -- where nothing that is seen was pending, the same is shown, and nothing that is seen is left
  pub shows_all : (r : Result A E) → Published r → ChangeNothing pending → (y ≡ x) × ChangeNothing left
  shows_all (Ok a) done nothing = (done.0 ∙ nothing.same x, none_change_nothing left done.1)
  shows_all (Err f) kept nothing = (kept.0, subst ChangeNothing (sym kept.1) nothing)

-- the first one: what is shown becomes the writer's base
pub begins : (seat : ℕ) (v : View) (x y : Shown) → x.front.list ≡ [] → y ≡ x → TurnsAt IsRuled seat v x y Begins
begins seat v x y none same views h at =
    let w : View = Some (record { base = y.world; front = y.front }) in
    let base : y.world ≡ h.base = ap (λ s. s.world) same ∙ (h.world ∙ ap (applied_all h.base) none) in
    let fits : (told : Told) → w ≡ Some told → Fits x h.base told = λ told is.
    let told_is : ◌≡◌ {A = Told} (record { base = y.world; front = y.front }) told = cc is in record {
      same_base = sym (ap (λ t. t.base) told_is) ∙ base;
      same_book = sym (ap (λ t. t.front.book) told_is) ∙ ap (λ s. s.front.book) same;
    } in
    (w, subst (λ (s : Shown). IsRuled s (set views seat w)) (sym same) (with_view x views h seat w fits), refl)

-- what that seat is told
pub told_of : (v : View) (x : Shown) (base : World) (front : Beginning) → v ≡ Some (record { base = x.world; front = x.front }) → x ≡ record { world = base; front = front } → IsTold v base front.book
told_of v x base front is x_is = record {
  told = record { base = x.world; front = x.front };
  is = is;
  same_base = ap (λ s. s.world) x_is;
  same_book = ap (λ s. s.front.book) x_is;
}

abbrev alone : Seats
alone = None ∷ []

nothing_told : (seat : ℕ) (told : Told) → get_elem? alone seat ≡ some (Some told) → ⊥
nothing_told zero told at = let e : ◌≡◌ {A = View} None (Some told) = some-injective None (Some told) at in cc e
nothing_told (suc seat) told at = some-ne-none (Some told) (sym at)

-- the writer's seat alone, over what has no delta yet
pub starts : (x : Shown) → x.front.list ≡ [] → IsRuled x (None ∷ [])
starts x none = record {
  base = x.world;
  world = sym (ap (applied_all x.world) none);
  linked = subst (λ (ds : List Delta). AreLinkedDeltas x.world ds) (sym none) tt;
  fits = λ seat told at. absurd (nothing_told seat told at);
}

-- ---- what a query takes

pub takes : (told : Told) (y s : Shown) (old front : Beginning) → s ≡ y → front ≡ s.front → IsPrefix old.list front.list → Finds told y → Takes told old front
takes told y s old front same is no_less found =
    let here : front ≡ y.front = is ∙ ap (λ t. t.front) same in record {
      book = ap (λ f. f.book) here ∙ found.book;
      no_less = no_less;
      linked = subst (λ (f : Beginning). AreLinkedDeltas told.base f.list) (sym here) found.linked;
    }

pub of_one_book : (told : Told) (y s : Shown) (old front : Beginning) → s ≡ y → front ≡ s.front → told.front.book ≡ old.book → Finds told y → old.book ≡ front.book
of_one_book told y s old front same is own found = sym own ∙ (sym found.book ∙ sym (ap (λ f. f.book) is ∙ ap (λ t. t.front.book) same))

-- ---- what handle and publisher know

-- a handle goes on: its seat stays, and takes `new`
module _ (v w : View) (mine old new : Beginning) (t : IsTold v (base_of v) mine.book) (copy : old ≡ mine) (same : w ≡ v) (taken : (told : Told) → v ≡ Some told → Takes told old new) where
  pub stays_told : IsTold w (base_of w) new.book
  stays_told = record {
    told = t.told;
    is = same ∙ t.is;
    same_base = t.same_base ∙ sym (ap base_of same);
    same_book = sym (taken t.told t.is).book;
  }

  pub goes_on : GoesOn (record { book = mine.book; base = base_of v; list = mine.list }) (record { book = new.book; base = base_of w; list = new.list })
  goes_on = record {
    same_book = (taken t.told t.is).book ∙ t.same_book;
    same_base = ap base_of same;
    no_less = subst (λ (f : Beginning). IsPrefix f.list new.list) copy (taken t.told t.is).no_less;
    linked = subst (λ (b : World). AreLinkedDeltas b new.list) (t.same_base ∙ sym (ap base_of same)) (taken t.told t.is).linked;
  }

pub told_base : (v : View) (base : World) (book : Book) → IsTold v base book → IsTold v (base_of v) book
told_base v base book t = record { told = t.told; is = t.is; same_base = sym (ap base_of t.is); same_book = t.same_book }

-- what is shown after one delta more, and that the publisher's seat is still told
module _ (old made kept : Beginning) (d : Delta) (made_is : made ≡ record { book = old.book; list = old.list ++ d ∷ [] }) (kept_is : kept ≡ made) where
  pub shown_on : (base : World) (given : Beginning) (x y : Shown) → IsShown base old x → IsLinkedDelta (applied_all base old.list) d → given ≡ made
      → (definitions : Option Policies) → AreBehind x.world d definitions
      → y ≡ absorbed x (Block (record { delta = d; definitions = definitions; front = given })) → IsShown base kept y
  shown_on base given x y s last given_is definitions are_behind y_is =
      let list : kept.list ≡ old.list ++ d ∷ [] = ap (λ f. f.list) (kept_is ∙ made_is) in record {
        world = ap (λ t. t.world) y_is ∙ (applied_as x.world d definitions are_behind ∙ ap (λ w. applied w d) s.world ∙ (sym (applied_all-snoc base old.list d) ∙ ap (applied_all base) (sym list)));
        same_front = ap (λ t. t.front) y_is ∙ (given_is ∙ sym kept_is);
        linked = subst (λ (ds : List Delta). AreLinkedDeltas base ds) (sym list) (linked-snoc base old.list d s.linked last);
      }

  pub told_on : (v w : View) → IsTold v (base_of v) old.book → w ≡ v → IsTold w (base_of w) kept.book
  told_on v w t same = record {
    told = t.told;
    is = same ∙ t.is;
    same_base = t.same_base ∙ sym (ap base_of same);
    same_book = t.same_book ∙ sym (ap (λ f. f.book) (kept_is ∙ made_is));
  }
