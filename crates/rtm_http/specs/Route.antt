-- Paths, what they lead to, and what a request for them is answered.
use Rattle.std.specs.Prelude.{◌≡◌, ◌≢◌, ◌<◌, ◌≤◌, ℕ, ◌==◌, not, ⊤, List, ◌++◌, length, codes, Option, MatchOption, IsUtf8}
use Rattle.std.specs.Fmt.{decimal}
use Rattle.std.specs.List.{AllPass}
use Rattle.sim_base.specs.Name.{IsName}
use Rattle.rtm_http.specs.declared.method.Method.{Method}
use Rattle.rtm_http.specs.declared.method.Method.TheVariants.{Get, Post}
use Rattle.rtm_http.specs.declared.call.Call.TheVariants.{Now, Parts, Part, Field, Buffers, Progress, Stuck, Wait, Pause, Continue, Tick, Leave}
use Rattle.rtm_http.specs.declared.call.Routed.{Routed}
use Rattle.rtm_http.specs.declared.call.Routed.TheVariants.{Call as Asks, NoRoute, WrongMethod, BadNumber}

-- what a path may lead to, with the segments that stand in it
pub data Target : Type 0 where
  to_now to_parts to_buffers to_progress to_stuck to_pause to_continue to_leave : Target
  to_part to_wait to_tick : List ℕ → Target
  to_field : List ℕ → List ℕ → Target

-- how its path is written
abbrev pub path_text : Target → List ℕ
path_text to_now = codes "/now"
path_text to_parts = codes "/parts"
path_text (to_part name) = codes "/part/" ++ name
path_text (to_field name word) = codes "/part/" ++ (name ++ (codes "/field/" ++ word))
path_text to_buffers = codes "/buffers"
path_text to_progress = codes "/progress"
path_text to_stuck = codes "/stuck"
path_text (to_wait time) = codes "/wait/" ++ time
path_text to_pause = codes "/pause"
path_text to_continue = codes "/continue"
path_text (to_tick name) = codes "/tick/" ++ name
path_text to_leave = codes "/leave"

-- a segment is not empty and has no slash
pub record IsSegment (text : List ℕ) : Type 0 where
  pub some : 0 < length text
  pub no_slash : AllPass (λ b. not (b == 47)) text

abbrev pub HasSegments : Target → Type 0
HasSegments to_now = ⊤
HasSegments to_parts = ⊤
HasSegments (to_part name) = IsSegment name
HasSegments (to_field name word) = IsSegment name × IsSegment word
HasSegments to_buffers = ⊤
HasSegments to_progress = ⊤
HasSegments to_stuck = ⊤
HasSegments (to_wait time) = IsSegment time
HasSegments to_pause = ⊤
HasSegments to_continue = ⊤
HasSegments (to_tick name) = IsSegment name
HasSegments to_leave = ⊤

-- the path is the target's; nothing in it is percent-decoded, and one that is not UTF-8 leads nowhere
pub record Leads (path : List ℕ) (target : Target) : Type 0 where
  pub utf8 : IsUtf8 path
  pub text : path ≡ path_text target
  pub segments : HasSegments target

abbrev pub method_word : Method → List ℕ
method_word Get = codes "GET"
method_word Post = codes "POST"

-- the one method that the target takes
abbrev pub method_of : Target → Method
method_of to_now = Get
method_of to_parts = Get
method_of (to_part name) = Get
method_of (to_field name word) = Get
method_of to_buffers = Get
method_of to_progress = Get
method_of to_stuck = Get
method_of (to_wait time) = Get
method_of to_pause = Post
method_of to_continue = Post
method_of (to_tick name) = Post
method_of to_leave = Post

-- what is read of a segment: the name that it is, or None where it has not the shape of one
abbrev pub IsNameRead : List ℕ → Option (List ℕ) → Type 0
IsNameRead text read = MatchOption read (¬ (IsName text)) (λ name. IsName text × (name ≡ text))

-- the segment is this time in decimal digits, without a sign and without a leading zero unless it is `0`
pub record IsTime (text : List ℕ) (time : ℕ) : Type 0 where
  pub digits : text ≡ decimal time
  pub within : time ≤ 500000000000

-- what a segment that should be a time is answered
abbrev pub IsWait : List ℕ → Routed → Type 0
IsWait text (Asks (Wait time)) = IsTime text time.0
IsWait text (Asks Now) = ⊥
IsWait text (Asks Parts) = ⊥
IsWait text (Asks (Part name)) = ⊥
IsWait text (Asks (Field name word)) = ⊥
IsWait text (Asks Buffers) = ⊥
IsWait text (Asks Progress) = ⊥
IsWait text (Asks Stuck) = ⊥
IsWait text (Asks Pause) = ⊥
IsWait text (Asks Continue) = ⊥
IsWait text (Asks (Tick name)) = ⊥
IsWait text (Asks Leave) = ⊥
IsWait text NoRoute = ⊥
IsWait text (WrongMethod allow) = ⊥
IsWait text BadNumber = (time : ℕ) → ¬ (IsTime text time)

-- what a request of the right method asks for
abbrev pub IsCall : Target → Routed → Type 0
IsCall to_now routed = routed ≡ Asks Now
IsCall to_parts routed = routed ≡ Asks Parts
IsCall (to_part name) routed = (n : Option (List ℕ)) × IsNameRead name n × (routed ≡ Asks (Part n))
IsCall (to_field name word) routed = (n : Option (List ℕ)) × (w : Option (List ℕ)) × IsNameRead name n × IsNameRead word w × (routed ≡ Asks (Field n w))
IsCall to_buffers routed = routed ≡ Asks Buffers
IsCall to_progress routed = routed ≡ Asks Progress
IsCall to_stuck routed = routed ≡ Asks Stuck
IsCall (to_wait time) routed = IsWait time routed
IsCall to_pause routed = routed ≡ Asks Pause
IsCall to_continue routed = routed ≡ Asks Continue
IsCall (to_tick name) routed = (n : Option (List ℕ)) × IsNameRead name n × (routed ≡ Asks (Tick n))
IsCall to_leave routed = routed ≡ Asks Leave

-- what a request for this target is answered: another method is told before a bad number
pub record IsAnswer (method : List ℕ) (target : Target) (routed : Routed) : Type 0 where
  pub right : method ≡ method_word (method_of target) → IsCall target routed
  pub wrong : method ≢ method_word (method_of target) → routed ≡ WrongMethod (method_of target)
