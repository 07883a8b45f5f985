-- What a commit does to the states, and flashes at rest after it.
use Rattle.std.proofs.Common.{◌≡◌, ℕ, ◌≤◌, Option, Some, List, length, sym, ap, subst, ◌∙◌, arith}
use Rattle.std.specs.Option.{ForSome}
use Rattle.urna_outside.specs.Told.{Told, Runs, AreSized}
use Rattle.twin_image.specs.Held.{IsNotOutranked}
use Rattle.twin_image.specs.Level.{CommitsTo, HasTokens, IsLevel, Stands, body_of}
use Rattle.twin_image.specs.declared.level.Level.{Level}
use Rattle.election_tables.specs.Limits.{most_voters}
use Rattle.election_tables.specs.TablesData.{IsTables, TablesData}
use Rattle.image_codec.specs.Decoded.{decoded, rank_in}
use Rattle.image_codec.specs.Encoding.{IsStateOf, encode}
use Rattle.image_codec.specs.State.{State, rank_of}
use Rattle.image_codec.specs.Layout.{body_size}
use Rattle.state_store.specs.Load.{header}
use Rattle.state_store.specs.Rest.{AreAtRest}
use Rattle.state_store.specs.Store.{AreDevices, Keeps, StoreData}
use Rattle.state_store.specs.declared.load.Load.{Load}
use Rattle.flash_store.specs.Calls.{Commits}
use Rattle.flash_store.proofs.Holding.{hold_either, outranks}
use Rattle.flash_store.proofs.Resting.{rest_framed, rests_after, stands_again}
use Rattle.state_store.specs.Held.{poll}
use Rattle.state_store.proofs.Stored.{known_state, long_state, reads}

-- the ranks by the same tables and number of voters, under other names
pub rank_named : (t tables : TablesData) (voters count : ℕ) → tables ≡ t → count ≡ voters → rank_in t voters ≡ rank_in tables count
rank_named t tables voters count same as_many = ap (λ (x : TablesData). rank_in x voters) (sym same) ∙ ap (rank_in tables) (sym as_many)

-- a commit of encodings is one of states
pub commits : (t : TablesData) (voters : ℕ) (s u : State) (a b : Told) → IsTables t → voters ≤ most_voters → decoded t voters (encode t s) ≡ Some s → decoded t voters (encode t u) ≡ Some u → Runs (CommitsTo a (rank_in t voters) body_size (encode t s) (encode t u)) a b → Runs (Commits (poll t voters) s u a) a b
commits t voters s u a b tables few s_known u_known run = (
  run.0,
  run.1,
  record {
    slots = record { within = run.2.within; syncs = run.2.syncs };
    stops = λ start told done stop left is. (
      hold_either (poll t voters) (decoded t voters) (reads t voters tables few) s u (encode t s) (encode t u) s_known u_known left (run.2.stops start told done stop left is),
      run.2.frames start told done stop left is,
    );
  },
)

-- A state whose encoding some bytes are, the one that is written today, is to be followed by one whose encoding other bytes are. The tables and the number of voters
-- that rank them have names of their own.
pub record IsFollowed (t tables : TablesData) (voters count : ℕ) (s u : State) (old new : List ℕ) : Type 0 where
  pub whole : IsTables t
  pub few : count ≤ most_voters
  pub same : tables ≡ t
  pub as_many : count ≡ voters
  pub old_state : IsStateOf t voters s
  pub old_body : old ≡ encode t s
  pub new_state : IsStateOf t voters u
  pub new_body : new ≡ encode t u

-- the state that a store keeps is followed by this one
pub followed_by : (t tables : TablesData) (told : Told) (store : StoreData) (count : ℕ) (s u : State) (old new : List ℕ) → IsTables t → count ≤ most_voters → tables ≡ t → count ≡ length u.came → IsStateOf t store.load.section.voters u → new ≡ encode t u
    → Keeps t told store s → old ≡ store.body → IsFollowed t tables store.load.section.voters count s u old new
followed_by t tables told store count s u old new whole few same as_many state written kept holds =
    record {
      whole = whole;
      few = few;
      same = same;
      as_many = as_many ∙ state.roll;
      old_state = kept.state;
      old_body = holds ∙ kept.body;
      new_state = state;
      new_body = written;
    }

module _ (t tables : TablesData) (voters count : ℕ) (s u : State) (old new : List ℕ) (is : IsFollowed t tables voters count s u old new) where
  few_voters : voters ≤ most_voters
  few_voters = omega (arith, is.few, is.as_many)

  old_known : decoded t voters (encode t s) ≡ Some s
  old_known = known_state t voters s is.whole few_voters is.old_state

  new_known : decoded t voters (encode t u) ≡ Some u
  new_known = known_state t voters u is.whole few_voters is.new_state

  old_fills : length (encode t s) ≡ body_size
  old_fills = long_state t voters s is.whole few_voters is.old_state

  new_fills : length (encode t u) ≡ body_size
  new_fills = long_state t voters u is.whole few_voters is.new_state

  same_rank : rank_in t voters ≡ rank_in tables count
  same_rank = rank_named t tables voters count is.same is.as_many

  pub followed_fills : length new ≡ body_size
  followed_fills = ap length is.new_body ∙ new_fills

  pub followed_outranks : rank_of s ≤ rank_of u → IsNotOutranked (rank_in tables count) new old
  followed_outranks below =
      subst (λ (body : List ℕ). IsNotOutranked (rank_in tables count) new body) (sym is.old_body)
      (subst (λ (body : List ℕ). IsNotOutranked (rank_in tables count) body (encode t s)) (sym is.new_body)
      (subst (λ (rank : List ℕ → Option ℕ). IsNotOutranked rank (encode t u) (encode t s)) same_rank (outranks (poll t voters) (decoded t voters) (reads t voters is.whole few_voters) s u (encode t s) (encode t u) old_known new_known below)))

  -- what is so of the bytes is so of the encodings
  pub followed_as : (F : List ℕ → List ℕ → Type 0) → F old new → F (encode t s) (encode t u)
  followed_as F was =
      subst (λ (body : List ℕ). F body (encode t u)) is.old_body (subst (F old) is.new_body was)

  -- flashes at rest with the first state stand for its bytes
  pub followed_stands : (level : Level body_size) (told : Told) (load : Load) → HasTokens level → AreDevices told.sizes → ForSome told.flashes (AreSized told.sizes) → body_of level ≡ old → ForSome told.flashes (AreAtRest t load s) → Stands told level
  followed_stands level told load tokens devices sized holds rest =
      stands_again body_size (header load) (encode t s) old_fills level told tokens devices sized (holds ∙ is.old_body) rest

  module _ (a b : Told) (run : Runs (CommitsTo a (rank_in tables count) body_size old new) a b) where
    moved : Runs (CommitsTo a (rank_in t voters) body_size (encode t s) (encode t u)) a b
    moved =
        subst (λ (rank : List ℕ → Option ℕ). Runs (CommitsTo a rank body_size (encode t s) (encode t u)) a b) (sym same_rank)
        (subst (λ (body : List ℕ). Runs (CommitsTo a (rank_in tables count) body_size (encode t s) body) a b) is.new_body
        (subst (λ (body : List ℕ). Runs (CommitsTo a (rank_in tables count) body_size body new) a b) is.old_body run))

    -- at each stop one of the states is held
    pub followed_commits : Runs (Commits (poll t voters) s u a) a b
    followed_commits = commits t voters s u a b is.whole few_voters old_known new_known moved

    -- and where all is level at the end, the flashes are at rest with the second
    pub followed_rests : (load : Load) → AreDevices a.sizes → ForSome a.flashes (AreSized a.sizes) → ForSome b.flashes (AreSized b.sizes) → ForSome a.flashes (AreAtRest t load s) → ForSome b.flashes (IsLevel body_size new) → ForSome b.flashes (AreAtRest t load u)
    followed_rests load devices sized sized_b rest level =
        rests_after body_size (header load) (encode t u) _ a b devices sized sized_b new_fills
        (λ fs told. rest_framed body_size (header load) (encode t s) old_fills a.sizes fs devices (sized fs told) (rest fs told)) run run.2.frames
        (λ fs told. subst (λ (body : List ℕ). IsLevel body_size body fs) is.new_body (level fs told))
