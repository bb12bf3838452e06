mod OneLock
