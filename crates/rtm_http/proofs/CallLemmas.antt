-- What an endpoint with a parameter is asked for.
use Rattle.std.proofs.Common.{◌≡◌, ℕ, List, ◌++◌, length, codes, refl, sym, ap, subst}
use Rattle.std.specs.Prelude.{Option}
use Rattle.rtm_http.specs.declared.endpoint.Endpoint.{Endpoint}
use Rattle.rtm_http.specs.declared.endpoint.Endpoint.TheVariants.{Part, Field, Wait, Tick}
use Rattle.rtm_http.specs.declared.call.Call.TheVariants.{Part as AskPart, Tick as AskTick}
use Rattle.rtm_http.specs.declared.call.Routed.{Routed}
use Rattle.rtm_http.specs.declared.call.Routed.TheVariants.{Call as Asks}
use Rattle.rtm_http.specs.Route.{Target, to_now, to_parts, to_buffers, to_progress, to_stuck, to_pause, to_continue, to_leave, to_part, to_field, to_wait, to_tick, method_of, path_text, IsNameRead, IsSegment, IsWait, IsCall, Leads}
use Rattle.rtm_http.specs.Table.{endpoint_of, endpoint_method}

-- the parameter is what stands behind six bytes of the path
abbrev pub IsBehind : List ℕ → List ℕ → Type 0
IsBehind path parameter = (front text : List ℕ) → length front ≡ 6 → path ≡ front ++ text → parameter ≡ text

pub asked_part : (path parameter : List ℕ) (read : Option (List ℕ)) → IsBehind path parameter → IsNameRead parameter read → (target : Target) → endpoint_of target ≡ Part → Leads path target → IsCall target (Asks (AskPart read))
asked_part path parameter read behind is (to_part name) e leads =
    (read, subst (λ (text : List ℕ). IsNameRead text read) (behind (codes "/part/") name refl leads.text) is, refl)
asked_part path parameter read behind is _ e leads = absurd (cc)

pub asked_tick : (path parameter : List ℕ) (read : Option (List ℕ)) → IsBehind path parameter → IsNameRead parameter read → (target : Target) → endpoint_of target ≡ Tick → Leads path target → IsCall target (Asks (AskTick read))
asked_tick path parameter read behind is (to_tick name) e leads =
    (read, subst (λ (text : List ℕ). IsNameRead text read) (behind (codes "/tick/") name refl leads.text) is, refl)
asked_tick path parameter read behind is _ e leads = absurd (cc)

pub asked_wait : (path parameter : List ℕ) (routed : Routed) → IsBehind path parameter → IsWait parameter routed → (target : Target) → endpoint_of target ≡ Wait → Leads path target → IsCall target routed
asked_wait path parameter routed behind is (to_wait time) e leads =
    subst (λ (text : List ℕ). IsWait text routed) (behind (codes "/wait/") time refl leads.text) is
asked_wait path parameter routed behind is _ e leads = absurd (cc)

pub asked_field : (path : List ℕ) (routed : Routed) → ((name word : List ℕ) → IsSegment name → path ≡ path_text (to_field name word) → IsCall (to_field name word) routed) → (target : Target) → endpoint_of target ≡ Field → Leads path target → IsCall target routed
asked_field path routed is (to_field name word) e leads = is name word leads.segments.0 leads.text
asked_field path routed is _ e leads = absurd (cc)

-- the method of an endpoint is that of its targets
pub method-endpoint : (target : Target) (endpoint : Endpoint) → endpoint_of target ≡ endpoint → endpoint_method endpoint ≡ method_of target
method-endpoint to_now endpoint e = ap endpoint_method (sym e)
method-endpoint to_parts endpoint e = ap endpoint_method (sym e)
method-endpoint (to_part name) endpoint e = ap endpoint_method (sym e)
method-endpoint (to_field name word) endpoint e = ap endpoint_method (sym e)
method-endpoint to_buffers endpoint e = ap endpoint_method (sym e)
method-endpoint to_progress endpoint e = ap endpoint_method (sym e)
method-endpoint to_stuck endpoint e = ap endpoint_method (sym e)
method-endpoint (to_wait time) endpoint e = ap endpoint_method (sym e)
method-endpoint to_pause endpoint e = ap endpoint_method (sym e)
method-endpoint to_continue endpoint e = ap endpoint_method (sym e)
method-endpoint (to_tick name) endpoint e = ap endpoint_method (sym e)
method-endpoint to_leave endpoint e = ap endpoint_method (sym e)
