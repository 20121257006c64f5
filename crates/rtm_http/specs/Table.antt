-- The table of routes, as the router keeps it.
use Rattle.std.specs.Prelude.{ℕ, List, [], ◌∷◌, ◌++◌, codes}
use Rattle.matchit.specs.Rows.{RowsOf, param_token}
use Rattle.matchit.specs.Router.{RouteOf}
use Rattle.rtm_http.specs.declared.method.Method.{Method}
use Rattle.rtm_http.specs.declared.method.Method.TheVariants.{Get, Post}
use Rattle.rtm_http.specs.declared.endpoint.Endpoint.{Endpoint}
use Rattle.rtm_http.specs.declared.endpoint.Endpoint.TheVariants.{Now, Parts, Part, Field, Buffers, Progress, Stuck, Wait, Pause, Continue, Tick, Leave}
use Rattle.rtm_http.specs.Route.{Target, to_now, to_parts, to_buffers, to_progress, to_stuck, to_pause, to_continue, to_leave, to_part, to_wait, to_tick, to_field}

-- the endpoint of a target
abbrev pub endpoint_of : Target → Endpoint
endpoint_of to_now = Now
endpoint_of to_parts = Parts
endpoint_of (to_part name) = Part
endpoint_of (to_field name word) = Field
endpoint_of to_buffers = Buffers
endpoint_of to_progress = Progress
endpoint_of to_stuck = Stuck
endpoint_of (to_wait time) = Wait
endpoint_of to_pause = Pause
endpoint_of to_continue = Continue
endpoint_of (to_tick name) = Tick
endpoint_of to_leave = Leave

abbrev pub endpoint_method : Endpoint → Method
endpoint_method Now = Get
endpoint_method Parts = Get
endpoint_method Part = Get
endpoint_method Field = Get
endpoint_method Buffers = Get
endpoint_method Progress = Get
endpoint_method Stuck = Get
endpoint_method Wait = Get
endpoint_method Pause = Post
endpoint_method Continue = Post
endpoint_method Tick = Post
endpoint_method Leave = Post

-- a row of the router: the pattern of a route, its text, and where the names of its parameters stand in that
abbrev pub row : List ℕ → List ℕ → List (ℕ × ℕ) → Endpoint → List ℕ × RouteOf Endpoint
row tokens route places endpoint = (tokens, record { pattern = tokens; text = route; names = places; value = endpoint })

abbrev pub plain_row : List ℕ → Endpoint → List ℕ × RouteOf Endpoint
plain_row path endpoint = row path path [] endpoint

-- one parameter, which ends the path
abbrev pub parameter : List ℕ
parameter = param_token ∷ []

-- the rows in the router's order
abbrev pub table : RowsOf (RouteOf Endpoint)
table =
    plain_row (codes "/buffers") Buffers
    ∷ plain_row (codes "/continue") Continue
    ∷ plain_row (codes "/leave") Leave
    ∷ plain_row (codes "/now") Now
    ∷ row (codes "/part/" ++ (parameter ++ (codes "/field/" ++ parameter))) (codes "/part/{name}/field/{field}") ((7, 11) ∷ (20, 25) ∷ []) Field
    ∷ row (codes "/part/" ++ parameter) (codes "/part/{name}") ((7, 11) ∷ []) Part
    ∷ plain_row (codes "/parts") Parts
    ∷ plain_row (codes "/pause") Pause
    ∷ plain_row (codes "/progress") Progress
    ∷ plain_row (codes "/stuck") Stuck
    ∷ row (codes "/tick/" ++ parameter) (codes "/tick/{name}") ((7, 11) ∷ []) Tick
    ∷ row (codes "/wait/" ++ parameter) (codes "/wait/{time}") ((7, 11) ∷ []) Wait
    ∷ []
