-- What is said to requests that ask for no WebSocket.
use Rattle.std.specs.Prelude.{◌≡◌, ◌⊎◌, List, [], ℕ, Bool, true, false, not, Option, Some, None, ◌++◌, length, codes, decimal, string_bytes, bytes_eq, if◌then◌else◌}
use Rattle.std.specs.Option.{option_map}
use Rattle.endpoint_core.specs.OneReading.{has_one_reading}
use Rattle.endpoint_core.specs.Origins.{Listed, may_come}
use Rattle.socket_conn.specs.declared.asked.Asked.{Asked}
use Rattle.socket_conn.specs.declared.head.Request.{Request}
use Rattle.socket_conn.specs.declared.head.Request.TheVariants.{Get, Other, Bad}
use Rattle.worker_pool.specs.declared.pages.Page.{Page}
use Rattle.worker_pool.specs.declared.pages.Page.TheVariants.{Health, Metrics, Overview, Index, Unknown, Nothing, Forbidden}
use Rattle.worker_pool.specs.declared.pages.Status.{Status}
use Rattle.worker_pool.specs.declared.pages.Store.{Store}
use Rattle.worker_pool.specs.declared.pages.Store.TheVariants.{Failed, Full, Stands}
use Rattle.worker_pool.specs.declared.pages.Status.TheVariants.{Fine, BadRequest, NotFound, Conflict, Unavailable}
use Rattle.worker_pool.specs.declared.pages.Status.TheVariants as statuses

-- the number and the name of a status
abbrev pub status_text : Status → List ℕ
status_text Fine = codes "200 OK"
status_text BadRequest = codes "400 Bad Request"
status_text statuses.Forbidden = codes "403 Forbidden"
status_text NotFound = codes "404 Not Found"
status_text Conflict = codes "409 Conflict"
status_text Unavailable = codes "503 Service Unavailable"

-- the first lines of a response whose body is of this kind
abbrev pub beginning : Status → List ℕ → List ℕ
beginning status kind = codes "HTTP/1.1 " ++ status_text status ++ codes "\r\nContent-Type: " ++ kind

-- the last lines of a head: the connection ends behind it, nobody is to keep it, pages from elsewhere may not load it, and a browser
-- does with it what the policy says
abbrev pub ending : (policy : List ℕ) → List ℕ
ending policy =
    codes "\r\nConnection: close\r\nCache-Control: no-store" ++ codes "\r\nX-Content-Type-Options: nosniff"
    ++ codes "\r\nCross-Origin-Resource-Policy: same-origin" ++ codes "\r\nContent-Security-Policy: " ++ policy ++ codes "\r\n\r\n"

-- a response with its head
abbrev pub response_of : Status → List ℕ → List ℕ → List ℕ → List ℕ
response_of status kind policy body =
    beginning status kind ++ codes "\r\nContent-Length: " ++ decimal (length body) ++ ending policy ++ body

-- a browser loads nothing for it, and shows it in no frame
abbrev pub nothing_else : List ℕ
nothing_else = codes "default-src 'none'; frame-ancestors 'none'"

-- the same, where the body is a text
abbrev pub text_response : Status → List ℕ → List ℕ
text_response status body = response_of status (codes "text/plain; charset=utf-8") nothing_else body

-- how the store stands
abbrev pub health : Store → List ℕ
health Failed = text_response Unavailable (codes "store failed\n")
health Full = text_response Unavailable (codes "disk full\n")
health Stands = text_response Fine (codes "ok\n")

-- the page that a target is; one that may be read in two ways is none
abbrev pub page_at : List ℕ → Page
page_at target =
    if not (has_one_reading target) then Nothing
    else (if bytes_eq target (codes "/health") then Health
    else (if bytes_eq target (codes "/metrics") then Metrics
    else (if bytes_eq target (codes "/overview") then Overview
    else (if bytes_eq target (codes "/") then Index else Unknown))))

-- whether a request with this head may come
abbrev pub comes : Listed → Asked → Bool
comes admitted asked = may_come admitted (string_bytes asked.host) (option_map string_bytes asked.origin)

-- the page that a request with this head asks for: who may not come gets none
abbrev pub page_for : Listed → Asked → Page
page_for admitted asked = if comes admitted asked then page_at (string_bytes asked.target) else Forbidden

-- the page that a request asks for; one that is no GET, or no request at all, asks for none
abbrev pub asked_of : Listed → Request → Page
asked_of admitted (Get asked) = page_for admitted asked
asked_of admitted Other = Nothing
asked_of admitted Bad = Nothing

-- something of this kind
abbrev pub Says : (kind policy : List ℕ) → List ℕ → Type 0
Says kind policy bytes = (body : List ℕ) × (bytes ≡ response_of Fine kind policy body)

-- a page of another origin asks, or the host is none of the broker's
abbrev pub turned_away : List ℕ
turned_away = text_response statuses.Forbidden (codes "forbidden\n")

-- there is no memory to look
abbrev pub unseen : List ℕ
unseen = text_response Unavailable (codes "no memory\n")

-- these bytes are that page
abbrev pub IsPage : Page → List ℕ → Type 0
IsPage Health bytes = (store : Store) × (bytes ≡ health store)
IsPage Metrics bytes = Says (codes "text/plain; version=0.0.4; charset=utf-8") nothing_else bytes ⊎ (bytes ≡ unseen)
IsPage Overview bytes = Says (codes "application/json") nothing_else bytes ⊎ (bytes ≡ unseen)
IsPage Index bytes = (policy : List ℕ) × Says (codes "text/html; charset=utf-8") policy bytes
IsPage Unknown bytes = bytes ≡ text_response NotFound (codes "not found\n")
IsPage Nothing bytes = bytes ≡ text_response BadRequest (codes "bad request\n")
IsPage Forbidden bytes = bytes ≡ turned_away

-- what a request for a WebSocket is answered that may not come; nothing, where there is no memory for the answer; and only such a
-- request is answered at all before a session begins
abbrev pub Refuses : Listed → Asked → Option (List ℕ) → Type 0
Refuses admitted asked (Some bytes) = (comes admitted asked ≡ false) × ((bytes ≡ turned_away) ⊎ (bytes ≡ []))
Refuses admitted asked None = comes admitted asked ≡ true
