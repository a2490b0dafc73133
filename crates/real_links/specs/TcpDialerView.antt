-- What a dialer over TCP means.
use Rattle.fw_outside.specs.DialerView.{DialerView}
use Rattle.real_links.specs.Dialing.{untold_dialer}
use Rattle.real_links.specs.declared.dialer.TcpDialer.{TcpDialer}

-- it tells only its counts, and how long its links wait
abbrev pub tcp_dialer_view : {R : Type 0} → TcpDialer R → DialerView
tcp_dialer_view d = untold_dialer d.came d.refusals d.link_faults d.link_idles d.data_faults d.data_idles d.waits
