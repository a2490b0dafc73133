use Rattle.auth_machine.proofs.asking.asked.Goals as goal

pub returns-in-Group : goal.returns-in-Group
returns-in-Group c sid found = rw (c.in-Group.is, found) c.group.ensures

pub returns-in-Proto : goal.returns-in-Proto
returns-in-Proto c sid found = rw (c.in-Proto.is, found) c.proto.ensures

pub returns-in-Password : goal.returns-in-Password
returns-in-Password c sid found = rw (c.in-Password.is, found) c.password.ensures

pub returns-in-Expire : goal.returns-in-Expire
returns-in-Expire c sid found = rw (c.in-Expire.is, found) c.expire.ensures

pub returns-in-Otp : goal.returns-in-Otp
returns-in-Otp c sid found = rw (c.in-Otp.is, found) c.otp.ensures
